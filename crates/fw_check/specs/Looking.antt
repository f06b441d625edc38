-- What names are looked up in, in the code's form.
use Rattle.std.specs.Prelude.{Bool, true, false, Option, map, option_map}
use Rattle.hush_commands.specs.Hardware as hardware
use Rattle.envvars_core.specs.declared.refusals.Refusal.{Refusal}
use Rattle.envvars_core.specs.declared.refusals.Refusal.TheVariants as refusal
use Rattle.fw_check.specs.Called.{Given, given_with}
use Rattle.fw_check.specs.Knowing.{Known}
use Rattle.fw_check.specs.Literals as literals
use Rattle.fw_check.specs.NameSets.{set_of}
use Rattle.fw_check.specs.declared.literals.Front.{Front}
use Rattle.fw_check.specs.declared.lookups.Lookups.{Lookups}
use Rattle.fw_check.specs.declared.lookups.Variables.{Variables}
use Rattle.fw_check.specs.declared.rules.Hardware.{Hardware}
use Rattle.fw_check.specs.declared.rules.Rules.{Rules}

abbrev pub front_view : Front → literals.Front
front_view front = record { bytes = front.bytes.items; whole = front.is_whole }

abbrev pub known_view : Variables → Known
known_view v = record {
  env = v.vars.now.env;
  given = set_of v.names.now.given;
  foreseen = set_of v.names.now.foreseen;
  written = set_of v.names.now.written;
  reread = set_of v.values.now.reread;
  recut = set_of v.values.now.recut;
}

abbrev pub known_in : Lookups → Option Known
known_in l = option_map known_view l.variables

abbrev pub hardware_view : Hardware → hardware.Hardware
hardware_view h = hardware.hardware h.board.now h.stand_ins.now

abbrev pub rules_view : Rules → Given
rules_view rules = given_with rules.shell (option_map hardware_view rules.hardware) (map (λ n. n.items) rules.known.now)

abbrev pub hardware_in : Lookups → Option hardware.Hardware
hardware_in l = option_map hardware_view l.rules.hardware

abbrev pub rules_in : Lookups → Given
rules_in l = rules_view l.rules

-- a write is refused for the type of its value
abbrev pub is_for_type : Refusal → Bool
is_for_type refusal.BadForm = false
is_for_type refusal.BadType = true
is_for_type refusal.NoCreate = false
is_for_type refusal.NoDelete = false
is_for_type refusal.NoOverwrite = false
is_for_type refusal.Full = false
is_for_type refusal.Memory = false
