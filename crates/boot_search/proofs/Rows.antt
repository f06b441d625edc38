-- Examples that the checker computes (docs/boot.md). Those with a number in mid-text are in src/tests.rt.
use Rattle.std.proofs.Common.{◌≡◌, true, false, [], ◌∷◌, ◌++◌, refl, codes}
use Rattle.std.specs.Fmt.{decimal}
use Rattle.boot_search.specs.declared.board.End.TheVariants.{Boots, Resets, GivesUp, Unknown}
use Rattle.boot_search.specs.declared.dot_words.Mark.TheVariants.{Plain, Doubtful, Lost}
use Rattle.boot_search.specs.DotText.{mark_of, quoted}
use Rattle.boot_search.specs.SurveyText.{Told, end_text, first_unmarked, survey_status, verdict, words_text}

words : words_text (codes "load" ++ 0 ∷ codes "mmc" ++ 0 ∷ codes "1:2" ++ 0 ∷ []) ≡ codes "load mmc 1:2"
words = refl

an_empty_word : words_text (codes "echo" ++ 0 ∷ 0 ∷ []) ≡ codes "echo "
an_empty_word = refl

no_words : words_text [] ≡ []
no_words = refl

boots : end_text Boots (codes "bootz" ++ 0 ∷ codes "0x46000000" ++ 0 ∷ []) ≡ codes "boots: bootz 0x46000000"
boots = refl

resets : end_text Resets (codes "reset" ++ 0 ∷ []) ≡ codes "resets: reset"
resets = refl

gives_up : end_text GivesUp [] ≡ codes "gives up"
gives_up = refl

a_limit : end_text Unknown (codes "steps" ++ 0 ∷ []) ≡ codes "unknown: steps"
a_limit = refl

-- three stored environments, of which the last two are lost
lost : Told
lost = record {
  stored = [] ∷ (1 ∷ []) ∷ (2 ∷ []) ∷ [];
  ways = [];
  complete = true;
  boots = true ∷ false ∷ false ∷ [];
  may_boot = true ∷ false ∷ false ∷ [];
}

the_first_lost : first_unmarked lost.may_boot ≡ 1
unfolding lost
the_first_lost = refl

two_lost : verdict lost [] ≡ decimal 2 ++ codes " stored environments never boot again, the first of them after:\n" ++ []
unfolding lost
two_lost = refl

a_lost_status : survey_status lost ≡ 1
unfolding lost
a_lost_status = refl

-- a limit is told before what is lost, and that before what is in doubt
after_a_limit : verdict (record { stored = []; ways = []; complete = false; boots = false ∷ []; may_boot = false ∷ [] }) [] ≡ codes "a limit was met: there are more ways than these\n"
after_a_limit = refl

two_in_doubt : verdict (record { stored = []; ways = []; complete = true; boots = false ∷ false ∷ true ∷ []; may_boot = true ∷ true ∷ true ∷ [] }) []
    ≡ decimal 2 ++ codes " stored environments boot only if a limit of the run isn't met\n"
two_in_doubt = refl

all_boot : verdict (record { stored = []; ways = []; complete = true; boots = true ∷ []; may_boot = true ∷ [] }) [] ≡ []
all_boot = refl

a_good_status : survey_status (record { stored = []; ways = []; complete = true; boots = true ∷ []; may_boot = true ∷ [] }) ≡ 0
a_good_status = refl

-- ---- a graph

quotes : quoted (codes "a\"b\\c&&<d>~" ++ 10 ∷ []) ≡ codes "\"a\\\"b\\\\c&amp;&amp;<d>~\\l\""
quotes = refl

bytes_that_are_no_text : quoted (0 ∷ 9 ∷ 31 ∷ 127 ∷ 195 ∷ 255 ∷ []) ≡ codes "\"\\\\x00\\\\x09\\\\x1f\\\\x7f\\\\xc3\\\\xff\""
bytes_that_are_no_text = refl

the_first_boots : mark_of lost 0 ≡ Plain
unfolding lost
the_first_boots = refl

the_second_is_lost : mark_of lost 1 ≡ Lost
unfolding lost
the_second_is_lost = refl

none_is_marked_after_a_limit : mark_of (record { stored = []; ways = []; complete = false; boots = false ∷ []; may_boot = false ∷ [] }) 0 ≡ Plain
none_is_marked_after_a_limit = refl

one_in_doubt : mark_of (record { stored = []; ways = []; complete = true; boots = false ∷ []; may_boot = true ∷ [] }) 0 ≡ Doubtful
one_in_doubt = refl
