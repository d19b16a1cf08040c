-- Names that may be written.
use Rattle.std.proofs.Common.{◌≤◌, false, List, [], length, sym, arith, true≢false}
use Rattle.std.proofs.lemmas.Option.{slice_get-get_or}
use Rattle.sh_tree.specs.declared.limits.TheConstants.{MAX_NAMES}
use Rattle.sh_tree.specs.standard.program.Syntax.{Text}
use Rattle.sh_drafts.specs.Facts as number
use Rattle.sh_drafts.specs.Kept.{IsNamed}
use Rattle.sh_drafts.specs.Working.{Sets, names_of, AreWithin, AreBelow}
use Rattle.sh_drafts.specs.Writable.{IsWritten, HasWritable}

abbrev pub no_sets : Sets
no_sets = record { vars = λ k. false; functions = λ k. false }

module _ (names : List Text) where
  pub none_below : AreBelow (length names) no_sets
  none_below = record { vars = λ k e. absurd (true≢false (sym e)); functions = λ k e. absurd (true≢false (sym e)) }

  pub written_within : (s may : Sets) → length names ≤ MAX_NAMES → IsWritten names s → AreBelow (length names) s → HasWritable names MAX_NAMES may → AreWithin s may
  written_within s may few w below all = record {
    vars = λ k e. let l = below.vars k e in let is = slice_get-get_or names k [] l in all.vars k _ (omega (arith, l, few)) is (w.vars k _ is e);
    functions = λ k e. let l = below.functions k e in let is = slice_get-get_or names k [] l in all.functions k _ (omega (arith, l, few)) is (w.functions k _ is e);
  }

  pub named_below : (f : number.Facts) → IsNamed (length names) f → AreBelow (length names) (names_of f)
  unfolding names_of IsNamed
  named_below number.NotReached h = none_below
  named_below (number.Known v f n) h = record { vars = h.vars; functions = h.functions }
