mod SubcommandLemmas
mod CheckLemmas
mod EntryPointLemmas
mod FindLemmas
mod HelpLemmas
mod NewImageLemmas
mod CopyReportLemmas
mod PowerOnLemmas
mod SaidLemmas
mod ScriptRunLemmas
mod SessionRunLemmas
pub mod Rows
pub mod SameTexts
mod WarnLemmas
