-- What sources are read as, worked out by hand from docs/texts.md and from what U-Boot's build makes of them.
use Rattle.std.proofs.Common.{◌≡◌, ℕ, List, [], ◌∷◌, Some, refl}
use Rattle.std.specs.Prelude.{Ok, Err, Result, codes}
use Rattle.envcfg_core.specs.Entries.{Entry}
use Rattle.env_source.specs.declared.source_fault.Flaw.{Flaw}
use Rattle.env_source.specs.declared.source_fault.Flaw.TheVariants as flaw
use Rattle.env_source.specs.declared.source_fault.SourceFault.{SourceFault}
use Rattle.env_source.specs.Sources.{source_of}

abbrev Read : Type 0
Read = Result (List Entry) SourceFault

abbrev at : ℕ → (name value : List ℕ) → Entry
at line name value = record { name = name; value = Some value; line = line }

abbrev refused : ℕ → Flaw → Read
refused line flaw = Err (record { line = line; flaw = flaw })

-- the example of the page
page : source_of (codes "bootdelay=2\nbootcmd=\n  run scan;\n  run netboot\ntargets=mmc0\ntargets+= usb0\n")
    ≡ Ok (at 2 (codes "bootcmd") (codes "run scan; run netboot") ∷ at 1 (codes "bootdelay") (codes "2") ∷ at 6 (codes "targets") (codes "mmc0 usb0") ∷ [])
page = refl

-- lines that go on, with blanks at their ends, and after a value that has begun
going_on : source_of (codes "a=\n  foo  \n\tbar\nb=x \n y\nc=1\n\n \t\nfoo") ≡ Ok (at 1 (codes "a") (codes "foo   bar") ∷ at 4 (codes "b") (codes "x  y") ∷ at 6 (codes "c") (codes "1 foo") ∷ [])
going_on = refl

-- what is no definition goes on, too
no_names : source_of (codes "a=x\n =b\n=c\nd e=f\n\tg=h\n") ≡ Ok (at 1 (codes "a") (codes "x =b =c d e=f g=h") ∷ [])
no_names = refl

-- the last definition that has a value counts
again : source_of (codes "a=1\nb=2\na=3\nb=\n") ≡ Ok (at 3 (codes "a") (codes "3") ∷ at 2 (codes "b") (codes "2") ∷ [])
again = refl

added : source_of (codes "b+=x\na=1\nc=\na+=2\n 3\na++=4\na+=5") ≡ Ok (at 7 (codes "a") (codes "12 35") ∷ at 6 (codes "a+") (codes "4") ∷ at 1 (codes "b") (codes "x") ∷ [])
added = refl

markers : source_of (codes "# 0 \"board.env\"\na=1\n# 12 \"a\\\\b.env\" 2\n b\n") ≡ Ok (at 2 (codes "a") (codes "1 b") ∷ [])
markers = refl

nothing : source_of [] ≡ Ok []
nothing = refl

without_values : source_of (codes "a=\nb=\n") ≡ Ok []
without_values = refl

-- the end of the text
one_without_value : source_of (codes "b=1\na=\n") ≡ Ok (at 1 (codes "b") (codes "1") ∷ [])
one_without_value = refl

two_without_value : source_of (codes "b=1\na=\nc=\n") ≡ refused 3 flaw.Lost
two_without_value = refl

gone_on_at_the_end : source_of (codes "b=1\na=\nc=\n x\n") ≡ Ok (at 1 (codes "b") (codes "1") ∷ at 3 (codes "c") (codes "x") ∷ [])
gone_on_at_the_end = refl

-- what is at fault
nul : source_of (97 ∷ 61 ∷ 0 ∷ 13 ∷ []) ≡ refused 1 flaw.Nul
nul = refl

carriage_return : source_of (codes "a=1\n\r\n") ≡ refused 2 flaw.CarriageReturn
carriage_return = refl

directive : source_of (codes "a=1\n\t#ifdef X\n") ≡ refused 2 flaw.Directive
directive = refl

no_marker : source_of (codes "a=1\n# 1st \"b\"\n") ≡ refused 2 flaw.Directive
no_marker = refl

comment : source_of (codes " /* the board */\na=1\n") ≡ refused 1 flaw.Comment
comment = refl

comment_inside : source_of (codes "a=/* b */#\n") ≡ Ok (at 1 (codes "a") (codes "/* b */#") ∷ [])
comment_inside = refl

backslash : source_of (codes "a\\+=b\n") ≡ refused 1 flaw.Backslash
backslash = refl

tab : source_of (codes "a\tb=c\n") ≡ refused 1 flaw.Tab
tab = refl

digit : source_of (codes "9=a\n8b=c\n7=d\n") ≡ refused 3 flaw.Digit
digit = refl

no_name : source_of (codes "+=a\n") ≡ refused 1 flaw.NoName
no_name = refl

no_addition : source_of (codes "a=1\na+=\n b\n") ≡ refused 2 flaw.NoAddition
no_addition = refl

no_variable : source_of (codes "\n a=1\nb=2\n") ≡ refused 2 flaw.NoVariable
no_variable = refl
