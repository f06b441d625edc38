-- A script's reading, and the visits of all.
use Rattle.std.proofs.Common.{◌≡◌, ℕ, zero, suc, ◌+◌, Bool, true, false, List, [], ◌∷◌, ◌++◌, take, Vec, Option, Some, None, refl, sym, ap, ◌∙◌, arith, subst, append_assoc, append-nil}
use Rattle.std.specs.Prelude.{◌≢◌, slice_get, option_map, OnOk, Result, Ok, Err}
use Rattle.std.specs.declared.alloc.Global.{Global}
use Rattle.std.specs.List.{flat_map, fold}
use Rattle.std.proofs.lemmas.Grind.{flat_map-append}
use Rattle.envimg_core.specs.Environment.{Environment}
use Rattle.hush_syntax.specs.Halts.{halt_in}
use Rattle.hush_syntax.specs.Reading.{read_in}
use Rattle.hush_syntax.specs.declared.nodes.Bodies.{Bodies}
use Rattle.hush_syntax.specs.declared.syntax_fault.FaultKind.TheVariants.{Memory}
use Rattle.hush_syntax.specs.declared.syntax_fault.SyntaxFault.{SyntaxFault}
use Rattle.hush_commands.specs.Hardware.{Hardware}
use Rattle.hush_run.specs.Meaning.{bodies_of}
use Rattle.fw_check.specs.Checking.{AreFollowed, AreVisited, Faulty, Reports, Script, Visit, after_visit, follow_texts, in_all, in_read, known_after, origin_in, reading_findings, script_in}
use Rattle.fw_check.specs.EntryPlaces.{EnvironmentText}
use Rattle.fw_check.specs.Called.{Given, in_answers}
use Rattle.fw_check.specs.ReportLines.{Report, with_findings, with_script}
use Rattle.fw_check.specs.Findings.{return_findings, stored_findings}
use Rattle.fw_check.specs.Knowing.{Known}
use Rattle.fw_check.specs.Following.{Followed, begin_all, begin_from, follow_fronts, is_among}
use Rattle.fw_check.specs.Found.{Found, found_more}
use Rattle.fw_check.specs.Origins.{Origin}
use Rattle.fw_check.specs.Literals.{Front}
use Rattle.fw_check.specs.NameSets.{no_names, with_all}
use Rattle.fw_check.specs.Naming.{foreseen_in, given_in, run_in, written_in}
use Rattle.fw_check.specs.Reports.{GoesOn, Reads, ReadsItems, TellsHalt}
use Rattle.fw_check.proofs.FoundLemmas.{found-append}
use Rattle.fw_check.proofs.FollowLemmas.{fronts-env, fronts-longer}
use Rattle.fw_check.proofs.NameLemmas.{all-among, with-append}

module _ (known : Option Known) (given : Given) (asked : Bool) where
  -- a script, and a text that isn't one
  pub read-script : {E : Type 0} (r : Result (Unit {0}) E) (source text : List ℕ) (old new : Found) → source ≡ text → OnOk r (ReadsItems known given asked source old new) → OnOk r (Reads known given asked text old new)
  read-script (Ok u) source text old new same h = subst (λ t. Reads known given asked t old new) same (Script h.0, h.1, h.2)
  read-script (Err e) source text old new same h = tt

  pub read-fault : {E : Type 0} (r : Result (Unit {0}) E) (source text : List ℕ) (bodies : Bodies) (fault : SyntaxFault) (old new : Found) → source ≡ text → bodies ≡ bodies_of given.shell →
      (fault.kind ≢ Memory → read_in bodies source ≡ None) → OnOk r ((fault.kind ≢ Memory) × TellsHalt bodies text old new) → OnOk r (Reads known given asked text old new)
  read-fault (Ok u) source text bodies fault old new same by unread h =
      let unread_text = subst (λ t. read_in bodies t ≡ None) same (unread h.0) in
      (Faulty h.1.0, subst (λ b. (read_in b text ≡ None) × (halt_in b text ≡ Some h.1.0)) by (unread_text, h.1.1), h.1.2)
  read-fault (Err e) source text bodies fault old new same by unread h = tt

  pub script-checked : (origin : Origin) (text : List ℕ) (report counted after : Report) (first second third fourth : Found) → counted ≡ with_script report →
      first ≡ record { origin = origin; text = text; report = counted } → second ≡ found_more first (return_findings first.text) →
      third ≡ found_more second (stored_findings second.origin second.text) → Reads known given asked text third fourth → after ≡ fourth.report → GoesOn known given origin asked text report after
  script-checked origin text report counted after first second third fourth one begun returned stored h done =
      let ys = reading_findings known given text h.0 in
      let returns : Found → Found = λ f. found_more f (return_findings f.text) in
      let stores : Found → Found = λ f. found_more f (stored_findings f.origin f.text) in
      let start : Report → Found = λ r. record { origin = origin; text = text; report = r } in
      let all = h.2 ∙ ap (λ (f : Found). found_more f ys) (stored ∙ ap stores (returned ∙ ap returns (begun ∙ ap start one))) in
      let joined = found-append (returns (start (with_script report))) (stored_findings origin text) ys
      ∙ found-append (start (with_script report)) (return_findings text) (stored_findings origin text ++ ys) in
      let assoc = append_assoc (return_findings text) (stored_findings origin text) ys in
      (h.0, h.1, done ∙ ap (λ (f : Found). f.report) (all ∙ joined) ∙ ap (with_findings origin text (with_script report)) (sym assoc))

-- a visit, and then the others
module _ (file : Option EnvironmentText) (known : Option Known) (given : Given) (asked : List ℕ → Bool) where
  pub report-first : (env : Environment) (name : List ℕ) (names : List (List ℕ)) (report after final : Report) → GoesOn known given (origin_in report file name) (asked name) (script_in env name) report after →
      Reports env file known given asked names after final → Reports env file known given asked (name ∷ names) report final
  report-first env name names report after final h rest =
      let v : Visit = record { name = name; reading = h.0 } in
      (v ∷ rest.0, ap (λ (ns : List (List ℕ)). name ∷ ns) rest.1, (h.1, rest.2), ap (λ (r : Report). fold (after_visit env file known given) r rest.0) (sym h.2) ∙ rest.3)

-- ---- the names that are visited

take-next : (names rest : List (List ℕ)) (index : ℕ) (name : List ℕ) → slice_get names index ≡ Some name → take (suc index) (names ++ rest) ≡ take index names ++ name ∷ []
take-next [] rest index name e = absurd (let no : ◌≡◌ {A = Option (List ℕ)} None (Some name) = e in cc)
take-next (x ∷ names) rest zero name e = let same : x ≡ name = cc in ap (λ (n : List ℕ). n ∷ []) same
take-next (x ∷ names) rest (suc index) name e = ap (λ (ns : List (List ℕ)). x ∷ ns) (take-next names rest index name e)

take-whole : (names : List (List ℕ)) (index : ℕ) → slice_get names index ≡ None → take index names ≡ names
take-whole [] zero e = refl
take-whole [] (suc index) e = refl
take-whole (x ∷ names) zero e = absurd (let no : ◌≡◌ {A = Option (List ℕ)} (Some x) None = e in cc)
take-whole (x ∷ names) (suc index) e = ap (λ (ns : List (List ℕ)). x ∷ ns) (take-whole names index e)

-- this is the set with the names in the scripts of these
abbrev IsSet : Environment → (names_in : List ℕ → List (List ℕ)) → (before : List ℕ → Bool) → List (List ℕ) → (List ℕ → Bool) → Type 0
IsSet env names_in before visited set = set ≡ with_all before (in_all names_in env visited)

-- from these names on the first ones were visited, and these are the sets with what their scripts give, foresee and write
pub record Follows (rules : Given) (env : Environment) (first now : Followed) (index : ℕ) (gave foresaw wrote given foreseen written : List ℕ → Bool) : Type 0 where
  pub same : now.env ≡ env
  pub visited : (rest : List (List ℕ)) → AreVisited rules now index rest → AreVisited rules first 0 (take index now.names ++ rest)
  pub gives : IsSet env (given_in rules) gave (take index now.names) given
  pub foresees : IsSet env (foreseen_in rules) foresaw (take index now.names) foreseen
  pub writes : IsSet env (written_in rules) wrote (take index now.names) written

pub follows-none : (rules : Given) (env : Environment) (f : Followed) (given foreseen written : List ℕ → Bool) → f.env ≡ env → Follows rules env f f 0 given foreseen written given foreseen written
follows-none rules env f given foreseen written same = record { same = same; visited = λ rest h. h; gives = refl; foresees = refl; writes = refl }

module _ (rules : Given) (env : Environment) (first now more : Followed) (index : ℕ) (name : List ℕ) (same : now.env ≡ env) (here : slice_get now.names index ≡ Some name)
    (followed : more ≡ follow_fronts now (run_in rules (script_in env name))) where
  next-visited : take (index + 1) more.names ≡ take index now.names ++ name ∷ []
  next-visited =
      let l = fronts-longer now (run_in rules (script_in env name)) in
      (λ i. take (let e : index + 1 ≡ suc index = omega arith in e i) ((ap (λ (f : Followed). f.names) followed ∙ l.1) i)) ∙ take-next now.names l.0 index name here

  next-names : (names_in : List ℕ → List (List ℕ)) → in_all names_in env (take (index + 1) more.names) ≡ in_all names_in env (take index now.names) ++ names_in (script_in env name)
  next-names names_in =
      ap (in_all names_in env) next-visited ∙ flat_map-append (λ n. names_in (script_in env n)) (take index now.names) (name ∷ [])
      ∙ ap (λ (ns : List (List ℕ)). in_all names_in env (take index now.names) ++ ns) (append-nil (names_in (script_in env name)))

  next-set : (names_in : List ℕ → List (List ℕ)) (before old new : List ℕ → Bool) → IsSet env names_in before (take index now.names) old → new ≡ with_all old (names_in (script_in env name)) →
      IsSet env names_in before (take (index + 1) more.names) new
  next-set names_in before old new so_far added =
      added ∙ ap (λ (set : List ℕ → Bool). with_all set (names_in (script_in env name))) so_far
      ∙ with-append before (in_all names_in env (take index now.names)) (names_in (script_in env name))
      ∙ ap (with_all before) (sym (next-names names_in))

  next-followed : more ≡ follow_fronts now (run_in rules (script_in now.env name))
  next-followed = followed ∙ ap (λ (e : Environment). follow_fronts now (run_in rules (script_in e name))) (sym same)

  pub follows-next : (gave foresaw wrote given foreseen written gives foresees writes : List ℕ → Bool) → Follows rules env first now index gave foresaw wrote given foreseen written →
      gives ≡ with_all given (given_in rules (script_in env name)) → foresees ≡ with_all foreseen (foreseen_in rules (script_in env name)) →
      writes ≡ with_all written (written_in rules (script_in env name)) → Follows rules env first more (index + 1) gave foresaw wrote gives foresees writes
  follows-next gave foresaw wrote given foreseen written gives foresees writes so_far added foreseen_too written_too = record {
    same = ap (λ (f : Followed). f.env) followed ∙ fronts-env now (run_in rules (script_in env name)) ∙ same;
    visited = λ rest h.
        let after = subst (λ (n : ℕ). AreVisited rules more n rest) (let e : index + 1 ≡ suc index = omega arith in e) h in
        let all = so_far.visited (name ∷ rest) (here, subst (λ (f : Followed). AreVisited rules f (suc index) rest) next-followed after) in
        subst (AreVisited rules first 0) (sym (append_assoc (take index now.names) (name ∷ []) rest) ∙ ap (λ (ns : List (List ℕ)). ns ++ rest) (sym next-visited)) all;
    gives = next-set (given_in rules) gave given gives so_far.gives added;
    foresees = next-set (foreseen_in rules) foresaw foreseen foresees so_far.foresees foreseen_too;
    writes = next-set (written_in rules) wrote written writes so_far.writes written_too;
  }

pub no-more : (names : List (List ℕ)) (index : ℕ) (o : Option (Vec ℕ Global)) → option_map (λ v. v.items) o ≡ slice_get names index → ((v : Vec ℕ Global) → o ≡ Some v → ⊥) → slice_get names index ≡ None
no-more names index None e none = sym e
no-more names index (Some v) e none = absurd (none v refl)

module _ (rules : Given) (env : Environment) (first now : Followed) (index : ℕ) (end : slice_get now.names index ≡ None) where
  pub visited-all : (gave foresaw wrote given foreseen written : List ℕ → Bool) → Follows rules env first now index gave foresaw wrote given foreseen written → AreVisited rules first 0 now.names
  visited-all gave foresaw wrote given foreseen written f = subst (AreVisited rules first 0) (append-nil (take index now.names) ∙ take-whole now.names index end) (f.visited [] end)

  set-all : (names_in : List ℕ → List (List ℕ)) (before set : List ℕ → Bool) → IsSet env names_in before (take index now.names) set → IsSet env names_in before now.names set
  set-all names_in before set is = is ∙ ap (λ (ns : List (List ℕ)). with_all before (in_all names_in env ns)) (take-whole now.names index end)

  pub given-all : (gave foresaw wrote given foreseen written : List ℕ → Bool) → Follows rules env first now index gave foresaw wrote given foreseen written → IsSet env (given_in rules) gave now.names given
  given-all gave foresaw wrote given foreseen written f = set-all (given_in rules) gave given f.gives

  pub foreseen-all : (gave foresaw wrote given foreseen written : List ℕ → Bool) → Follows rules env first now index gave foresaw wrote given foreseen written → IsSet env (foreseen_in rules) foresaw now.names foreseen
  foreseen-all gave foresaw wrote given foreseen written f = set-all (foreseen_in rules) foresaw foreseen f.foresees

  pub written-all : (gave foresaw wrote given foreseen written : List ℕ → Bool) → Follows rules env first now index gave foresaw wrote given foreseen written → IsSet env (written_in rules) wrote now.names written
  written-all gave foresaw wrote given foreseen written f = set-all (written_in rules) wrote written f.writes

pub begin-env : (f : Followed) (alone : Bool) (names : List (List ℕ)) → (begin_from f alone names).env ≡ f.env
begin-env f true [] = refl
begin-env f false [] = refl
begin-env f alone (name ∷ names) = refl

pub all-env : (h : Option Hardware) (f : Followed) (all alone : Bool) (names : List (List ℕ)) → (begin_all h f all alone names).env ≡ f.env
all-env h f true alone names = refl
all-env h f false alone names = begin-env f alone names

-- ---- with the names that the board's own code sets, and those in the texts that answer calls and in those of files

pub texts-env : (rules : Given) (texts : List (List ℕ)) (f : Followed) → (follow_texts rules texts f).env ≡ f.env
texts-env rules texts f =
    fronts-env (follow_fronts f (in_answers (run_in rules) rules.hardware)) (flat_map (run_in rules) texts) ∙ fronts-env f (in_answers (run_in rules) rules.hardware)

pub texts-followed : (first answered filed : Followed) (rules : Given) (texts : List (List ℕ)) → answered ≡ follow_fronts first (in_answers (run_in rules) rules.hardware) →
    filed ≡ follow_fronts answered (flat_map (run_in rules) texts) → filed ≡ follow_texts rules texts first
texts-followed first answered filed rules texts one two = two ∙ ap (λ (f : Followed). follow_fronts f (flat_map (run_in rules) texts)) one

module _ (rules : Given) (env : Environment) (texts names : List (List ℕ)) where
  pub given-known : (none known answered filed all : List ℕ → Bool) → none ≡ no_names → known ≡ with_all none rules.known →
      answered ≡ with_all known (in_answers (given_in rules) rules.hardware) → filed ≡ with_all answered (flat_map (given_in rules) texts) →
      all ≡ with_all filed (in_all (given_in rules) env names) → all ≡ (known_after rules env texts names).given
  given-known none known answered filed all first second third fourth last =
      let a = rules.known in
      let b = in_answers (given_in rules) rules.hardware in
      let t = flat_map (given_in rules) texts in
      let d = in_all (given_in rules) env names in
      let answers = third ∙ ap (λ (s : List ℕ → Bool). with_all s b) (second ∙ ap (λ (s : List ℕ → Bool). with_all s a) first) in
      last ∙ ap (λ (s : List ℕ → Bool). with_all s d) (fourth ∙ ap (λ (s : List ℕ → Bool). with_all s t) answers)
      ∙ with-append (with_all (with_all no_names a) b) t d ∙ with-append (with_all no_names a) b (t ++ d) ∙ with-append no_names a (b ++ (t ++ d)) ∙ all-among (a ++ (b ++ (t ++ d)))

  -- the same for names that are foreseen, and that are written
  read-known : (names_in : List ℕ → List (List ℕ)) (none answered filed all : List ℕ → Bool) → none ≡ no_names → answered ≡ with_all none (in_answers names_in rules.hardware) →
      filed ≡ with_all answered (flat_map names_in texts) → all ≡ with_all filed (in_all names_in env names) → all ≡ is_among (in_read names_in rules env texts names)
  read-known names_in none answered filed all first second third last =
      let b = in_answers names_in rules.hardware in
      let t = flat_map names_in texts in
      let d = in_all names_in env names in
      last ∙ ap (λ (s : List ℕ → Bool). with_all s d) (third ∙ ap (λ (s : List ℕ → Bool). with_all s t) (second ∙ ap (λ (s : List ℕ → Bool). with_all s b) first))
      ∙ with-append (with_all no_names b) t d ∙ with-append no_names b (t ++ d) ∙ all-among (b ++ (t ++ d))

  pub foreseen-known : (none answered filed all : List ℕ → Bool) → none ≡ no_names → answered ≡ with_all none (in_answers (foreseen_in rules) rules.hardware) →
      filed ≡ with_all answered (flat_map (foreseen_in rules) texts) → all ≡ with_all filed (in_all (foreseen_in rules) env names) → all ≡ (known_after rules env texts names).foreseen
  foreseen-known none answered filed all first second third last = read-known (foreseen_in rules) none answered filed all first second third last

  pub written-known : (none answered filed all : List ℕ → Bool) → none ≡ no_names → answered ≡ with_all none (in_answers (written_in rules) rules.hardware) →
      filed ≡ with_all answered (flat_map (written_in rules) texts) → all ≡ with_all filed (in_all (written_in rules) env names) → all ≡ (known_after rules env texts names).written
  written-known none answered filed all first second third last = read-known (written_in rules) none answered filed all first second third last

-- ---- the names that are followed from some on, whatever their scripts name

pub record Walks (in_text : List ℕ → List Front) (env : Environment) (first now : Followed) (index : ℕ) : Type 0 where
  pub same : now.env ≡ env
  pub followed : (rest : List (List ℕ)) → AreFollowed in_text now index rest → AreFollowed in_text first 0 (take index now.names ++ rest)

module _ (in_text : List ℕ → List Front) (env : Environment) where
  pub walks-none : (f : Followed) → f.env ≡ env → Walks in_text env f f 0
  walks-none f same = record { same = same; followed = λ rest h. h }

  pub walks-next : (first now more : Followed) (index : ℕ) (name : List ℕ) → slice_get now.names index ≡ Some name → more ≡ follow_fronts now (in_text (script_in env name)) → Walks in_text env first now index →
      Walks in_text env first more (index + 1)
  walks-next first now more index name here is so_far =
      let l = fronts-longer now (in_text (script_in env name)) in
      let next : index + 1 ≡ suc index = omega arith in
      let names = (λ i. take (next i) ((ap (λ (f : Followed). f.names) is ∙ l.1) i)) ∙ take-next now.names l.0 index name here in
      let same_text = is ∙ ap (λ (e : Environment). follow_fronts now (in_text (script_in e name))) (sym so_far.same) in
      record {
        same = ap (λ (f : Followed). f.env) is ∙ fronts-env now (in_text (script_in env name)) ∙ so_far.same;
        followed = λ rest h.
            let after = subst (λ (n : ℕ). AreFollowed in_text more n rest) next h in
            let all = so_far.followed (name ∷ rest) (here, subst (λ (f : Followed). AreFollowed in_text f (suc index) rest) same_text after) in
            subst (AreFollowed in_text first 0) (sym (append_assoc (take index now.names) (name ∷ []) rest) ∙ ap (λ (ns : List (List ℕ)). ns ++ rest) (sym names)) all;
      }

  pub walks-all : (first now : Followed) (index : ℕ) → slice_get now.names index ≡ None → Walks in_text env first now index → AreFollowed in_text first 0 now.names
  walks-all first now index end w = subst (AreFollowed in_text first 0) (append-nil (take index now.names) ∙ take-whole now.names index end) (w.followed [] end)
