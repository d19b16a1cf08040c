-- Lists of the commands that call each function.
use Rattle.std.proofs.Common.{◌≡◌, ℕ, suc, ◌+◌, ◌-◌, ◌<◌, ◌≤◌, Bool, true, false, List, [], ◌∷◌, ◌++◌, length, map, get_or, set, refl, sym, ap, ◌∙◌, arith, eqb, eq-eqb, ⊎_elim, Some, None, append-nil, get_or-set_same, get_or-set_other}
use Rattle.std.specs.List.{filter, position_from}
use Rattle.std.specs.Prelude.{cond}
use Rattle.std.specs.Global.{Vec}
use Rattle.std.specs.Str.{bytes_eq}
use Rattle.std.proofs.lemmas.Bool.{ne_eqb, cases_eq}
use Rattle.std.proofs.lemmas.List.{get_or-map, map-set}
use Rattle.sh_runs.specs.standard.Kinds.{kind_of, is_special}
use Rattle.sh_runs.specs.Calls.{Table, callee_at, called}
use Rattle.sh_runs.specs.Profile.{Static}
use Rattle.sh_table.specs.declared.table.Row as declared
use Rattle.sh_runs.specs.Calls as calls
use Rattle.sh_table.specs.KeptTable as kept
use Rattle.sh_worklist.specs.Calls.{does_call, is_number, with_call}

-- functions are numbered from one
position_low : {X : Type 0} (p : X → Bool) (i f : ℕ) (xs : List X) → position_from p i xs ≡ Some f → i ≤ f
position_low p i f [] e = cc
position_low p i f (x ∷ xs) e = here (p x) (position_low p (i + 1) f xs) e
  where
    here : (b : Bool) → (position_from p (i + 1) xs ≡ Some f → i + 1 ≤ f) → cond b (Some i) (position_from p (i + 1) xs) ≡ Some f → i ≤ f
    here true later h = let same : i ≡ f = cc in omega arith
    here false later h = let low = later h in omega arith

called_some : (names : List (List ℕ)) (s : Static) (f : ℕ) → called names s ≡ Some f → 0 < f
unfolding called
called_some names None f e = cc
called_some names (Some u) f e =
    elim (is_special (kind_of u)) as (λ b. cond b None (position_from (λ name. bytes_eq name u) 1 names) ≡ Some f → 0 < f) [
      | true ↦ λ h. cc
      | false ↦ λ h. position_low (λ name. bytes_eq name u) 1 f names h
    ] e

pub callee_some : (t : Table) (n f : ℕ) → callee_at t n ≡ Some f → 0 < f
unfolding callee_at
callee_some t n f e = called_some _ _ f e

-- the lists after a command that calls a function
pub call_added : (t : Table) (old new : List (List ℕ)) (f g n : ℕ) → Some g ≡ callee_at t n → 1 ≤ g → new ≡ with_call old (g - 1) n → f < length old
    → get_or new f [] ≡ get_or old f [] ++ filter (does_call t f) (n ∷ [])
unfolding does_call
call_added t old new f g n is low made lt =
    ap (λ ls. get_or ls f []) made
    ∙ ⊎_elim
    (λ (e : f ≡ g - 1).
    let test : eqb (suc f) g ≡ true = eq-eqb (suc f) g (omega arith) in
    ap (λ m. get_or (set old m (get_or old m [] ++ n ∷ [])) f []) (sym e)
    ∙ get_or-set_same old f (get_or old f [] ++ n ∷ []) [] lt
    ∙ ap (λ b. get_or old f [] ++ cond b (n ∷ []) []) (sym test)
    ∙ ap (λ o. get_or old f [] ++ cond (is_number (suc f) o) (n ∷ []) []) is)
    (λ (ne : f ≡ g - 1 → ⊥).
    let test : eqb (suc f) g ≡ false = ne_eqb (suc f) g (λ e. ne (omega arith)) in
    get_or-set_other old (g - 1) f (get_or old (g - 1) [] ++ n ∷ []) [] ne
    ∙ sym (append-nil (get_or old f []))
    ∙ ap (λ b. get_or old f [] ++ cond b (n ∷ []) []) (sym test)
    ∙ ap (λ o. get_or old f [] ++ cond (is_number (suc f) o) (n ∷ []) []) is)
    (cases_eq f (g - 1))

-- and after another command
pub none_called : (t : Table) (xs : List ℕ) (f n : ℕ) → None ≡ callee_at t n → xs ≡ xs ++ filter (does_call t f) (n ∷ [])
unfolding does_call
none_called t xs f n is = sym (append-nil xs) ∙ ap (λ o. xs ++ cond (is_number (suc f) o) (n ∷ []) []) is

-- one more command at the end of a list
pub pushed : (xs : List (Vec ℕ)) (i n : ℕ) (was now : Vec ℕ) → i < length xs → was ≡ get_or xs i was → now.items ≡ was.items ++ n ∷ []
    → map (λ (v : Vec ℕ). v.items) (set xs i now) ≡ with_call (map (λ (v : Vec ℕ). v.items) xs) i n
pushed xs i n was now lt read more =
    map-set (λ (v : Vec ℕ). v.items) xs i now
    ∙ ap (set (map (λ (v : Vec ℕ). v.items) xs) i) (more ∙ ap (λ (v : Vec ℕ). v.items ++ n ∷ []) read ∙ ap (λ ys. ys ++ n ∷ []) (sym (get_or-map (λ (v : Vec ℕ). v.items) xs i was [] lt)))

-- the lists of these commands
pub record IsCalled (t : Table) (lists : List (List ℕ)) (ns : List ℕ) : Type 0 where
  pub sized : length lists ≡ length t.functions.names
  pub callers : (f : ℕ) → f < length t.functions.names → get_or lists f [] ≡ filter (does_call t f) ns

-- the numbers of the rows
pub all_called : (t : Table) (b : List ℕ) (rows : List declared.Row) (f : ℕ) → map (kept.row_in b) rows ≡ t.rows
    → filter (does_call t f) (map (λ (r : declared.Row). r.number) rows) ≡ filter (does_call t f) (map (λ r. r.0) t.rows)
all_called t b rows f same = ap (filter (does_call t f)) (numbers rows ∙ ap (map (λ (r : calls.Row). r.0)) same)
  where
    numbers : (rs : List declared.Row) → map (λ (r : declared.Row). r.number) rs ≡ map (λ (r : calls.Row). r.0) (map (kept.row_in b) rs)
    numbers [] = refl
    numbers (r ∷ rs) = ap (λ ns. r.number ∷ ns) (numbers rs)
