use Rattle.std.proofs.Common.{refl}
use Rattle.device_files.specs.Record.{calls_in}
use Rattle.device_files.proofs.CallLemmas.{untouched}
use Rattle.device_files.proofs.open_device.OpenDeviceDevice.sync.Goals as goal

pub returns-in-Ok-clause-untouched : goal.returns-in-Ok-clause-untouched
returns-in-Ok-clause-untouched g c = λ h. untouched (λ d. calls_in d.calls) g.S.Start.contents _ _ _ c.note.ensures refl (λ left may. may.1)

pub returns-in-Err-clause-untouched : goal.returns-in-Err-clause-untouched
returns-in-Err-clause-untouched g c = λ h. untouched (λ d. calls_in d.calls) g.S.Start.contents _ _ _ c.note-in-Err.ensures refl (λ left may. may)
