-- The requests and replies of the code as the definitions have them, and what one request leaves.
use Rattle.std.specs.Prelude.{◌≡◌, ℕ, List, map, Option, Some, None, Result, Ok, Err, Vec}
use Rattle.std.specs.declared.alloc.Global.{Global}
use Rattle.envvars_core.specs.declared.refusals.Memory.{Memory}
use Rattle.env_session.specs.Session.{Held, bytes_of}
use Rattle.env_session.specs.Requests.{entry_in}
use Rattle.env_session.specs.declared.session.Side.{Side}
use Rattle.hush_syntax.specs.Scripts.{tree_of}
use Rattle.hush_commands.specs.Hardware.{hardware}
use Rattle.hush_run.specs.Meaning.{Rules}
use Rattle.hush_run.specs.Runs.{rules_in}
use Rattle.env_requests.specs.Requests.{Request, Run, Write, Import, Save, Print, Mark, Undo, UndoTo, Note, Reply, Ran, Wrote, Imported, Saved, Printed, Marked, Undone, Answer, answer_to, MayBe}
use Rattle.env_requests.specs.declared.request.Request as code
use Rattle.env_requests.specs.declared.request.Request.TheVariants as is_request
use Rattle.env_requests.specs.declared.reply.Reply as told_by
use Rattle.env_requests.specs.declared.reply.Reply.TheVariants as is_reply
use Rattle.env_requests.specs.declared.run_rules.RunRules.{RunRules}

-- the rules that a run follows
abbrev pub rules_of : RunRules → Rules
rules_of r = rules_in r.shell (hardware r.board.now r.stand_ins.now) r.limits.now

abbrev pub asked : code.Request → Request
asked (is_request.Run script) = Run (tree_of script)
asked (is_request.Write name value force) = Write name.items (bytes_of value) force
asked (is_request.Import entries) = Import (map entry_in entries.items)
asked is_request.Save = Save
asked is_request.Print = Print
asked is_request.Mark = Mark
asked is_request.Undo = Undo
asked (is_request.UndoTo number) = UndoTo number

abbrev pub side_in : Result Side Memory → Option Side
side_in (Ok side) = Some side
side_in (Err memory) = None

abbrev pub text_in : Result (Vec ℕ Global) Memory → Option (List ℕ)
text_in (Ok text) = Some text.items
text_in (Err memory) = None

abbrev pub told : told_by.Reply → Reply
told (is_reply.Ran outcome) = Ran outcome.ending outcome.status outcome.steps outcome.text.items
told (is_reply.Wrote result) = Wrote result
told (is_reply.Imported report) = Imported report.done report.refused report.ending
told (is_reply.Saved result) = Saved (side_in result)
told (is_reply.Printed text) = Printed (text_in text)
told (is_reply.Marked result) = Marked result
told (is_reply.Undone result) = Undone result

-- for some possible note, the reply and what is left are the definition's
pub record Obeys (rules : Rules) (h : Held) (request : Request) (reply : Reply) (after : Held) : Type 0 where
  pub note : Note
  pub may : MayBe rules h request note
  pub reply_is : reply ≡ (answer_to rules h request note).reply
  pub left : after ≡ (answer_to rules h request note).left
