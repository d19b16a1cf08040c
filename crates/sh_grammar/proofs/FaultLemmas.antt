-- What is reported at the end of a text, and where here-documents wait.
use Rattle.std.proofs.Common.{◌≡◌, ◌<◌, ◌≤◌, ℕ, List, [], ◌∷◌, drop, length, Some, None, refl, sym, ap, subst, ◌∙◌, lt_of_lt_of_le, arith}
use Rattle.std.specs.Prelude.{◌+◌, true, unwrap_or}
use Rattle.sh_tree.specs.declared.refusal.Fault.{Fault}
use Rattle.sh_tree.specs.declared.refusal.Fault.TheVariants as fault
use Rattle.sh_tree.specs.declared.refusal.Form.{Form}
use Rattle.sh_tree.specs.declared.refusal.Form.TheVariants as form
use Rattle.sh_tree.specs.declared.refusal.Refusal.{Refusal}
use Rattle.sh_tree.specs.declared.refusal.Refusal.TheVariants.{LeftOut, Syntax}
use Rattle.sh_tree.specs.declared.token.command.Lead.{Lead}
use Rattle.sh_tree.specs.declared.token.command.Lead.TheVariants as lead
use Rattle.sh_grammar.specs.declared.mark.Mark.{Mark}
use Rattle.sh_grammar.specs.declared.state.State.{State}
use Rattle.sh_grammar.specs.Faults.{IsFault, IsPlace, Tells, TellsAt, ended, ended_by}
use Rattle.sh_grammar.specs.Lines.{first_joined}
use Rattle.sh_grammar.specs.States.{AreBefore, Stands, waiting}
use Rattle.sh_grammar.specs.Ticks.{misplaced, overrun}
use Rattle.sh_grammar.specs.declared.ticks.Ticks.{Ticks}
use Rattle.sh_grammar.specs.declared.ticks.Ticks.TheVariants as ticks

some_at : {i j : ℕ} → Some i ≡ Some j → i ≡ j
some_at e = cc

first_before : (n : ℕ) (ms : List Mark) (i : ℕ) → Some i ≡ waiting None ms → AreBefore n ms → i < n
first_before n [] i is before = cc
first_before n (m ∷ ms) i is before = subst (λ v. v < n) (sym (some_at is)) before.0

pub first_in : (b : List ℕ) (s : State) (i : ℕ) → Some i ≡ waiting None s.pending → Stands b s → i < length b
first_in b s i is stands = lt_of_lt_of_le (first_before s.at s.pending i is stands.behind) stands.inside

pub first_inside : (b : List ℕ) (s : State) (i : ℕ) → Some i ≡ waiting None s.pending → Stands b s → i ≤ length b
first_inside b s i is stands = let below = first_in b s i is stands in omega arith

-- what is reported at the end, by what waits
end_of : (ms : List Mark) (f : Fault) (i : ℕ) → None ≡ waiting None ms → Syntax f i ≡ ended_by None ms f i
end_of [] f i is = refl
end_of (m ∷ ms) f i is = cc

open_of : (ms : List Mark) (f : Fault) (i at : ℕ) → Some at ≡ waiting None ms → Syntax fault.OpenHereDoc at ≡ ended_by None ms f i
open_of [] f i at is = cc
open_of (m ∷ ms) f i at is = ap (λ v. Syntax fault.OpenHereDoc v) (some_at is)

pub end_is : (b : List ℕ) (s : State) (f : Fault) (i : ℕ) → None ≡ overrun s.ticks (length b) → None ≡ waiting None s.pending → Syntax f i ≡ ended b s f i
end_is b s f i none is = end_of s.pending f i is ∙ ap (λ o. ended_by o s.pending f i) none

pub end_open : (b : List ℕ) (s : State) (f : Fault) (i at : ℕ) → None ≡ overrun s.ticks (length b) → Some at ≡ waiting None s.pending → Syntax fault.OpenHereDoc at ≡ ended b s f i
end_open b s f i at none is = open_of s.pending f i at is ∙ ap (λ o. ended_by o s.pending f i) none

pub end_overrun : (b : List ℕ) (s : State) (f : Fault) (i at : ℕ) → Some at ≡ overrun s.ticks (length b) → LeftOut form.BackquoteInside at ≡ ended b s f i
end_overrun b s f i at is = ap (λ o. ended_by o s.pending f i) is

-- a backquote is reported in the text
pub misplaced_fault : (b : List ℕ) (t : Ticks) (i : ℕ) (e : Refusal) → e ≡ misplaced t i → i < length b → IsFault b e
unfolding misplaced
misplaced_fault b t i e is inside = subst (IsFault b) (sym is) (go t)
  where
    go : (t : Ticks) → IsFault b (misplaced t i)
    go ticks.Outside = omega arith
    go (ticks.Here quoted) = omega arith
    go (ticks.Deeper quoted) = inside

-- before the end of the text what is reported does not depend on here-documents
pub tells_inside : (b : List ℕ) (l : Lead) (s : State) (e : Refusal) → (l ≡ lead.End → ⊥) → TellsAt b l s e → Tells b l s.at e
tells_inside b lead.End s e none h = absurd (none refl)
tells_inside b lead.Backquote s e none h = (s.ticks, h)
tells_inside b _ s e none h = h

-- where the first line continuation is from the token's beginning on, the form is reported
pub continuation_at : (b : List ℕ) (f : Form) (i n : ℕ) → f ≡ form.Continuation → Some n ≡ first_joined (λ rest. true) (drop i b) → IsPlace b f i (i + n)
continuation_at b f i n is found = subst (λ g. IsPlace b g i (i + n)) (sym is) (ap (λ o. i + unwrap_or o 0) found)

-- if there is none, it is reported at the token
pub no_continuation : (b : List ℕ) (f : Form) (i : ℕ) → f ≡ form.Continuation → None ≡ first_joined (λ rest. true) (drop i b) → IsPlace b f i i
no_continuation b f i is none =
    let here : i ≡ i + 0 = omega arith in
    subst (λ g. IsPlace b g i i) (sym is) (here ∙ ap (λ o. i + unwrap_or o 0) none)
