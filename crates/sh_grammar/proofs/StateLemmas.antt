-- Where states are.
use Rattle.std.proofs.Common.{ℕ, ◌≤◌, Bool, false, List, [], ◌∷◌, length, Option, Some, None, lt_of_lt_of_le}
use Rattle.sh_tree.specs.declared.limits.TheConstants.{MAX_NESTING}
use Rattle.sh_grammar.specs.declared.mark.Mark.{Mark}
use Rattle.sh_grammar.specs.declared.state.State.{State}
use Rattle.sh_grammar.specs.declared.ticks.Ticks.{Ticks}
use Rattle.sh_grammar.specs.Readers.{Reading, To}
use Rattle.sh_grammar.specs.States.{AreBefore, IsBefore, Lies, Stands}

-- what is before a place is before a later one
pub before_later : (m n : ℕ) (o : Option ℕ) → m ≤ n → IsBefore m o → IsBefore n o
before_later m n None after h = tt
before_later m n (Some i) after h = lt_of_lt_of_le h after

pub are_later : (m n : ℕ) (ms : List Mark) → m ≤ n → AreBefore m ms → AreBefore n ms
are_later m n [] after h = tt
are_later m n (k ∷ ms) after h = (lt_of_lt_of_le h.0 after, are_later m n ms after h.1, h.2)

pub at_depth_stands : (b : List ℕ) (n : ℕ) (s : State) → n ≤ MAX_NESTING → Stands b s → Stands b (record s { depth = n })
at_depth_stands b n s shallow h = record { inside = h.inside; settled = h.settled; few = h.few; shallow = shallow; around = h.around; behind = h.behind }

pub closing_stands : (b : List ℕ) (closed fresh : Bool) (s : State) → Stands b s → Stands b (record s { closed = closed; fresh = fresh })
closing_stands b closed fresh s h = record { inside = h.inside; settled = h.settled; few = h.few; shallow = h.shallow; around = h.around; behind = h.behind }

pub ended_stands : (b : List ℕ) (s : State) → Stands b s → Stands b (record s { closed = false; bodies = [] })
ended_stands b s h = record { inside = h.inside; settled = h.settled; few = h.few; shallow = h.shallow; around = h.around; behind = h.behind }

pub lies_of : (b : List ℕ) (s : State) → Stands b s → Lies b s
lies_of b s h = record { inside = h.inside; few = h.few; shallow = h.shallow; around = h.around; behind = h.behind }

pub lies_at : (b : List ℕ) (i : ℕ) (s : State) → s.at ≤ i → i ≤ length b → Stands b s → Lies b (record s { at = i })
lies_at b i s after inside h = record {
  inside = inside;
  few = h.few;
  shallow = h.shallow;
  around = before_later s.at i s.outer after h.around;
  behind = are_later s.at i s.pending after h.behind;
}

-- what is read does not depend on the backquotes around
pub ticks_to : {A : Type 0} (b : List ℕ) (R : Reading A) (least : ℕ) (x : A) (v : State) (ticks : Ticks) → To b R least x v → To b R least x (record v { ticks = ticks })
ticks_to b R least x v ticks h = record {
  one = h.one;
  from = h.from;
  stands = record { inside = h.stands.inside; settled = h.stands.settled; few = h.stands.few; shallow = h.stands.shallow; around = h.stands.around; behind = h.stands.behind };
}
