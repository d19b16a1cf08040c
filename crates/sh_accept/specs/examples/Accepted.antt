-- A known text that is accepted with a known certificate, which is the greatest one.
-- shset's own; the standard has none.
use Rattle.std.specs.Prelude.{true, false, [], ◌∷◌, codes, Ok}
use Rattle.sh_tree.specs.examples.Language.{double_text}
use Rattle.sh_tree.specs.standard.program.Syntax.{Text}
use Rattle.sh_domain.specs.Facts.{Declared}
use Rattle.sh_domain.specs.examples.CompactTexts.{compact_header}
use Rattle.sh_domain.specs.examples.Programs.{declared}
use Rattle.sh_domain.specs.examples.Texts.{lines, with_line}
use Rattle.sh_answers.specs.declared.verdict.Verdict.TheVariants.{Pass}
use Rattle.sh_accept.specs.Answers.{Checks, HasBestText, Lints}
use Rattle.sh_accept.specs.examples.Answers.{sure_line}

-- x is declared
abbrev pub with_x : Declared
with_x = declared (codes "x") 0

-- `echo "$x"` has one command. x is surely set round it.
abbrev pub sure_text : Text
sure_text = with_line sure_line

-- the same certificate in its compact form
abbrev pub sure_compact_text : Text
sure_compact_text = lines (compact_header ∷ codes "commands 1 functions 0 loops 0" ∷ codes "s 0:IFS,OPTIND,PPID,x:" ∷ [])

-- From the bytes of `echo "$x"`, if x is declared: a check of either version passes, and a lint
-- does. These are the texts of the greatest certificate.
pub record KnownIsAccepted : Type 0 where
  pub passes : Checks double_text with_x sure_text (Ok Pass)
  pub compact_passes : Checks double_text with_x sure_compact_text (Ok Pass)
  pub lints : Lints double_text with_x (Ok Pass)
  pub full : HasBestText true double_text with_x sure_text
  pub compact : HasBestText false double_text with_x sure_compact_text
