-- What is wrong with arguments that clap's rules don't detect.
use Rattle.std.specs.Prelude.{◌++◌, Result, Ok, Err}
use Rattle.clap.specs.Words.{Text}
use Rattle.fw_arguments.specs.declared.word_fault.WordFault.{WordFault}

-- the text of a fault
abbrev pub fault_text : WordFault → Text
fault_text fault = fault.front.now ++ fault.word.now ++ fault.back.now

-- the code's answers, in this form
abbrev pub word_seen : {A B : Type 0} → (A → B) → Result A WordFault → Result B Text
word_seen view (Ok a) = Ok (view a)
word_seen view (Err fault) = Err (fault_text fault)
