use Rattle.fw_files.specs.declared.file_fault.FileFault.TheVariants.{Bare, NoName, UbiVolume, Yaml}
use Rattle.fw_tools.proofs.SaidLemmas.{line_of_same}
use Rattle.fw_tools.proofs.fault_lines.say_fault.Goals as goal

pub returns-in-Yaml : goal.returns-in-Yaml
returns-in-Yaml g c =
    line_of_same c.args.explains c.args.path.now c.args.fault Yaml _ _ c.in-Yaml.is c.say_path-in-Yaml.ensures

pub returns-in-UbiVolume : goal.returns-in-UbiVolume
returns-in-UbiVolume g c =
    line_of_same c.args.explains c.args.path.now c.args.fault UbiVolume _ _ c.in-UbiVolume.is c.say_path-in-UbiVolume.ensures

pub returns-in-NoName : goal.returns-in-NoName
returns-in-NoName g c =
    line_of_same c.args.explains c.args.path.now c.args.fault (NoName c.in-NoName.line) _ _ c.in-NoName.is c.say_place-in-NoName.ensures

pub returns-in-Bare : goal.returns-in-Bare
returns-in-Bare g c =
    line_of_same c.args.explains c.args.path.now c.args.fault (Bare c.in-Bare.line) _ _ c.in-Bare.is c.say_place-in-Bare.ensures
