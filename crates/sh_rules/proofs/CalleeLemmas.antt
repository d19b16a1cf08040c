-- What the call table has of a command.
use Rattle.std.proofs.Common.{◌≡◌, Bool, true, false, not, ◌&&◌, if◌then◌else◌, List, [], ◌∷◌, Some, None, is_some, refl, sym, ap, ◌∙◌}
use Rattle.std.specs.List.{position_from}
use Rattle.std.specs.Str.{bytes_eq}
use Rattle.sh_tree.specs.standard.program.Syntax.{Text}
use Rattle.sh_runs.specs.Calls.{called, static_at}
use Rattle.sh_runs.specs.standard.Kinds as kinds
use Rattle.sh_runs.specs.standard.Kinds.{kind_of}
use Rattle.sh_runs.specs.Profile.{Static}
use Rattle.sh_runs.specs.standard.runs.Environment.{is_one_of}
use Rattle.sh_domain.specs.Table.{is_special}
use Rattle.sh_runs.proofs.PositionLemmas.{is_placed}
use Rattle.sh_gains.proofs.KindLemmas.{special_same}
use Rattle.sh_rules.specs.TextTells.{calls_by}

-- the table has a function for a command where one is called
pub one_called : (names : List Text) (ts : List Static) → is_some (called names (static_at ts 0)) ≡ calls_by names ts
unfolding called static_at calls_by
one_called names [] = refl
one_called names (None ∷ ts) = refl
one_called names (Some t ∷ ts) = go (kinds.is_special (kind_of t)) (sym (special_same (kind_of t))) (is_placed names t 1)
  where
    go : (b : Bool) → b ≡ is_special (kind_of t) → is_some (position_from (λ n. bytes_eq n t) 1 names) ≡ is_one_of names t
        → is_some (if b then None else position_from (λ n. bytes_eq n t) 1 names) ≡ (is_one_of names t && not (is_special (kind_of t)))
    go true s f = sym (ap (λ c. is_one_of names t && not c) (sym s) ∙ and_false (is_one_of names t))
      where
        and_false : (b : Bool) → (b && false) ≡ false
        and_false true = refl
        and_false false = refl
    go false s f = f ∙ sym (ap (λ c. is_one_of names t && not c) (sym s) ∙ and_true (is_one_of names t))
      where
        and_true : (b : Bool) → (b && true) ≡ b
        and_true true = refl
        and_true false = refl
