-- The canonical text of what was read is read again, as a tree that is the same.
use Rattle.std.proofs.Common.{◌≡◌, ℕ, List, sym, subst}
use Rattle.sh_copies.proofs.Copied.{words_are_copied}
use Rattle.sh_tree.specs.declared.tree.Script.{Script}
use Rattle.sh_print.specs.Layout.{canon}
use Rattle.sh_print.specs.Same.{IsReadBack, ReadsBack}
use Rattle.sh_print.specs.Trees.{script_of}
use Rattle.sh_print.proofs.NulLemmas.{canonical_none}
use Rattle.sh_print.proofs.PrintableLemmas.{printable}
use Rattle.sh_print.proofs.ScriptsPrinted.{printable_reads}

pub read_back : ReadsBack
read_back b t limit count reads =
    let items = script_of b t in
    let can = printable b limit count t words_are_copied reads in
    let again = printable_reads limit count items can (canonical_none limit count items can) in
    (again.0, again.1, sym again.2)

-- a text that is the canonical one
pub text_read_back : (b : List ℕ) (t : Script) (c : List ℕ) → c ≡ canon b t → IsReadBack b t c
text_read_back b t c is = subst (IsReadBack b t) (sym is) (read_back b t)
