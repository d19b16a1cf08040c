-- A script that is read has names and loops: what is seen of it, and its commands, can be put in
-- order.
use Rattle.std.proofs.Common.{◌≡◌, ℕ, zero, suc, ◌<◌, ◌≤◌, Bool, List, [], ◌∷◌, map, length, get_or, Ok, inl, inr, refl, subst, ap, arith, le_trans}
use Rattle.std.specs.Borrow.{Bor}
use Rattle.std.specs.List.{flat_map, insert}
use Rattle.std.specs.List.Sorted.{IsPermutation, IsNonDecreasingBy}
use Rattle.std.proofs.lemmas.Bool.{cases_lt}
use Rattle.std.proofs.lemmas.List.Sorted.{IsNonDecreasingBy-insert, IsNonDecreasingBy-short, IsPermutation-cons, IsPermutation-insert, IsPermutation-map, IsPermutation-refl, IsPermutation-trans}
use Rattle.sh_tree.specs.Answers.{Parses}
use Rattle.sh_tree.specs.declared.tree.Command.{Command, out-Command}
use Rattle.sh_tree.specs.declared.tree.Script.{Script}
use Rattle.sh_tree.specs.standard.program.Syntax.{Text}
use Rattle.sh_tree.specs.Commands.{commands_of}
use Rattle.sh_domain.specs.Facts.{Declared}
use Rattle.sh_domain.specs.Names.{IsNumbering, numbering}
use Rattle.sh_domain.specs.Reading.{AreLoops, is_loop}
use Rattle.sh_domain.specs.Sights.{Sight, in_command}
use Rattle.sh_accept.specs.Computed.{IsRead}

-- Putting in order by a number

module _ {X : Type 0} (n : X → ℕ) where
  -- where one more belongs: none before it has a greater number, and none after it a lesser one
  record HasPlace (y : X) (xs : List X) : Type 0 where
    at : ℕ
    inside : at ≤ length xs
    low : (k : ℕ) (d : X) → k < at → n (get_or xs k d) ≤ n y
    high : (k : ℕ) (d : X) → at ≤ k → k < length xs → n y ≤ n (get_or xs k d)

  behind : (x : X) (xs : List X) → IsNonDecreasingBy n (x ∷ xs) → IsNonDecreasingBy n xs
  behind x xs rises = λ i j d k l. rises (suc i) (suc j) d (omega arith) (omega arith)

  place : (y : X) (xs : List X) → IsNonDecreasingBy n xs → HasPlace y xs
  place y [] rises = record { at = 0; inside = omega arith; low = λ k d l. absurd (omega arith); high = λ k d m l. absurd (omega arith) }
  place y (x ∷ xs) rises = elim (cases_lt (n x) (n y)) [
    | inl less ↦
        let rest = place y xs (behind x xs rises) in
        record { at = suc rest.at; inside = (let i = rest.inside in omega arith); low = low_more rest less; high = high_more rest }
    | inr more ↦
        record {
          at = 0;
          inside = omega arith;
          low = λ k d l. absurd (omega arith);
          high = λ k d m l. let first : n x ≤ n (get_or (x ∷ xs) k d) = rises 0 k d (omega arith) l in le_trans more first;
        }
  ]
    where
      low_more : (rest : HasPlace y xs) → n x < n y → (k : ℕ) (d : X) → k < suc rest.at → n (get_or (x ∷ xs) k d) ≤ n y
      low_more rest less zero d l = omega arith
      low_more rest less (suc k) d l = rest.low k d (omega arith)

      high_more : (rest : HasPlace y xs) (k : ℕ) (d : X) → suc rest.at ≤ k → k < length (x ∷ xs) → n y ≤ n (get_or (x ∷ xs) k d)
      high_more rest zero d m l = absurd (omega arith)
      high_more rest (suc k) d m l = rest.high k d (omega arith) (omega arith)

  -- the same elements, in order
  record InOrder (xs : List X) : Type 0 where
    elements : List X
    same : IsPermutation xs elements
    rises : IsNonDecreasingBy n elements

  in_order : (xs : List X) → InOrder xs
  in_order [] = record { elements = []; same = IsPermutation-refl []; rises = IsNonDecreasingBy-short n [] (omega arith) }
  in_order (x ∷ xs) =
      let rest = in_order xs in
      let p = place x rest.elements rest.rises in
      record {
        elements = insert rest.elements p.at x;
        same = IsPermutation-trans _ _ _ (IsPermutation-cons x xs rest.elements rest.same) (IsPermutation-insert rest.elements p.at x);
        rises = IsNonDecreasingBy-insert n rest.elements p.at x rest.rises p.inside p.low p.high;
      }

-- Names

seen_in_order : (b : List ℕ) (t : Script) → InOrder (λ (x : Sight). x.at) (flat_map (in_command b) (commands_of t))
seen_in_order b t = in_order (λ (x : Sight). x.at) (flat_map (in_command b) (commands_of t))

-- the names of a script, by what is seen of it
names_of : List ℕ → Declared → Script → List Text
names_of b d t = numbering d (seen_in_order b t).elements

numbered : (b : List ℕ) (d : Declared) (t : Script) → IsNumbering b t d (names_of b d t)
unfolding names_of
numbered b d t =
    let o = seen_in_order b t in
    record {
      seen = o.elements;
      in_order = record { commands = commands_of t; all_commands = IsPermutation-refl (commands_of t); all = o.same; ordered = o.rises };
      each_once = refl;
    }

-- Loops

-- a reference to a command, wherever it points
lent : Command → Bor Command
lent c = record { ref_ptr = (0, 0); now = c }

number : Bor Command → ℕ
number c = (out-Command c.now).number

shown : (cs : List Command) → map (λ (c : Bor Command). c.now) (map lent cs) ≡ cs
unfolding lent
shown [] = refl
shown (c ∷ cs) = ap (λ ds. c ∷ ds) (shown cs)

loops_in_order : (t : Script) → InOrder number (map lent (commands_of t))
loops_in_order t = in_order number (map lent (commands_of t))

loops_of : Script → List Bool
loops_of t = map (λ (c : Bor Command). is_loop c.now) (loops_in_order t).elements

looped : (t : Script) → AreLoops t (loops_of t)
unfolding loops_of number
looped t =
    let o = loops_in_order t in
    record {
      commands = o.elements;
      all = subst (λ cs. IsPermutation cs (map (λ (c : Bor Command). c.now) o.elements)) (shown (commands_of t)) (IsPermutation-map (λ (c : Bor Command). c.now) _ _ o.same);
      ordered = o.rises;
      each = refl;
    }

-- what is known of a script that is read
pub record Known (b : List ℕ) (d : Declared) (t : Script) : Type 0 where
  pub names : List Text
  pub loops : List Bool
  pub read : IsRead b d t names loops

pub known : (b : List ℕ) (d : Declared) (t : Script) → Parses b (Ok t) → Known b d t
known b d t h = record { names = names_of b d t; loops = loops_of t; read = record { reading = h; numbering = numbered b d t; are_loops = looped t } }
