-- Two greatest certificates of a script are one sheet.
use Rattle.std.proofs.Common.{◌≡◌, ℕ, zero, suc, ◌+◌, ◌-◌, nat_eq, Bool, true, false, not, ◌&&◌, ◌||◌, if◌then◌else◌, List, [], ◌∷◌, length, Option, Some, None, option_map, slice_get, unwrap_or, refl, sym, ◌∙◌, ap, subst, arith}
use Rattle.std.specs.List.{list_all}
use Rattle.std.specs.Str.{bytes_eq}
use Rattle.std.proofs.lemmas.Bool.{true≢false, and_parts}
use Rattle.std.proofs.lemmas.Bool.Decides.{nat_tests}
use Rattle.std.proofs.lemmas.Slice.Eq.{bytes_eq-Decides}
use Rattle.sh_tree.specs.standard.program.Syntax.{Text}
use Rattle.sh_runs.specs.standard.runs.Environment.{is_one_of}
use Rattle.sh_domain.specs.Facts.{Claim, Unreached, facts}
use Rattle.sh_domain.specs.Names.{are_distinct}
use Rattle.sh_domain.specs.Order.{IsWithin, IsBelow, AreAmong}
use Rattle.sh_domain.specs.Reading.{head_fits, command_fits, commands_fit, functions_fit, function_fits, claim_fits, fits}
use Rattle.sh_domain.specs.Sheets.{Sheet, CommandClaims, FunctionClaims, nowhere, command_at, function_at, claim_at, certificate_of}
use Rattle.sh_domain.specs.Spelling.{IsSheet, is_writable, is_writable_head, are_writable, is_command, is_function}
use Rattle.sh_domain.specs.Views.{Before, AfterZero, AfterNonzero, Head, Entry, ReturnsZero, ReturnsNonzero}
use Rattle.sh_accept.proofs.SheetLemmas.{same_claim, same_drops}

-- Rows

same_rows : {A : Type 0} (xs ys : List A) → length xs ≡ length ys → ((i : ℕ) (x y : A) → slice_get xs i ≡ Some x → slice_get ys i ≡ Some y → x ≡ y) → xs ≡ ys
same_rows [] [] e h = refl
same_rows [] (y ∷ ys) e h = absurd (omega arith)
same_rows (x ∷ xs) [] e h = absurd (omega arith)
same_rows (x ∷ xs) (y ∷ ys) e h =
    let first : x ≡ y = h zero x y refl refl in
    let rest : xs ≡ ys = same_rows xs ys (omega arith) (λ i u v p q. h (suc i) u v p q) in
    λ i. first i ∷ rest i

all_at : {A : Type 0} (test : A → Bool) (xs : List A) (i : ℕ) (x : A) → list_all test xs ≡ true → slice_get xs i ≡ Some x → test x ≡ true
all_at test [] i x h e = absurd (true≢false (sym (ap (λ o. unwrap_or (option_map (λ y. true) o) false) e)))
all_at test (y ∷ ys) zero x h e = ap test (sym (ap (λ o. unwrap_or o y) e)) ∙ (and_parts (test y) (list_all test ys) h).0
all_at test (y ∷ ys) (suc i) x h e = all_at test ys i x (and_parts (test y) (list_all test ys) h).1 e

-- Commands

at_index : (s : Sheet) (i : ℕ) (x : CommandClaims) → slice_get s.commands i ≡ Some x → command_at s (i + 1) ≡ x
at_index s i x h = let e : i + 1 - 1 ≡ i = omega arith in ap (λ k. unwrap_or (slice_get s.commands k) nowhere) e ∙ ap (λ o. unwrap_or o nowhere) h

pub as_many : (names : List Text) (ls : List Bool) (cs : List CommandClaims) → commands_fit names ls cs ≡ true → length cs ≡ length ls
unfolding commands_fit
as_many names [] [] h = refl
as_many names [] (c ∷ cs) h = absurd (true≢false (sym h))
as_many names (l ∷ ls) [] h = absurd (true≢false (sym h))
as_many names (l ∷ ls) (c ∷ cs) h = let rest = as_many names ls cs (and_parts (command_fits names l c) (commands_fit names ls cs) h).1 in omega arith

-- whether the command of that index is a loop
pub record FitsAt (names : List Text) (ls : List Bool) (i : ℕ) (c : CommandClaims) : Type 0 where
  pub is_loop : Bool
  pub there : slice_get ls i ≡ Some is_loop
  pub head : head_fits names is_loop c.head ≡ true

fits_at : (names : List Text) (ls : List Bool) (cs : List CommandClaims) (i : ℕ) (c : CommandClaims) → commands_fit names ls cs ≡ true → slice_get cs i ≡ Some c → FitsAt names ls i c
unfolding commands_fit
fits_at names [] [] i c h e = absurd (true≢false (sym (ap (λ o. unwrap_or (option_map (λ y. true) o) false) e)))
fits_at names [] (x ∷ cs) i c h e = absurd (true≢false (sym h))
fits_at names (l ∷ ls) [] i c h e = absurd (true≢false (sym h))
fits_at names (l ∷ ls) (x ∷ cs) zero c h e =
    let own = (and_parts (command_fits names l x) (commands_fit names ls cs) h).0 in
    let is : x ≡ c = ap (λ o. unwrap_or o x) e in
    record {
      is_loop = l;
      there = refl;
      head = subst (λ y. head_fits names l y.head ≡ true) is (and_parts (claim_fits names x.before && claim_fits names x.zero && claim_fits names x.nonzero) (head_fits names l x.head) own).1;
    }
fits_at names (l ∷ ls) (x ∷ cs) (suc i) c h e =
    let f = fits_at names ls cs i c (and_parts (command_fits names l x) (commands_fit names ls cs) h).1 e in
    record { is_loop = f.is_loop; there = f.there; head = f.head }

same_head : (names : List Text) (l : Bool) (h k : Option Claim) → head_fits names l h ≡ true → head_fits names l k ≡ true → is_writable_head h ≡ true → is_writable_head k ≡ true
    → IsWithin (facts (unwrap_or h Unreached)) (facts (unwrap_or k Unreached)) → IsWithin (facts (unwrap_or k Unreached)) (facts (unwrap_or h Unreached)) → h ≡ k
unfolding head_fits is_writable_head
same_head names true (Some h) (Some k) f g v w p q = ap Some (same_claim h k v w p q)
same_head names true None k f g v w p q = absurd (true≢false (sym f))
same_head names true (Some h) None f g v w p q = absurd (true≢false (sym g))
same_head names false None None f g v w p q = refl
same_head names false (Some h) k f g v w p q = absurd (true≢false (sym f))
same_head names false None (Some k) f g v w p q = absurd (true≢false (sym g))

-- Functions

function_there : (names : List Text) (fs : List FunctionClaims) (i : ℕ) (t : Text) (f : FunctionClaims) → are_distinct names ≡ true → slice_get names i ≡ Some t → slice_get fs i ≡ Some f → function_at names fs t ≡ f
unfolding are_distinct function_at
function_there [] fs i t f d e g = absurd (true≢false (sym (ap (λ o. unwrap_or (option_map (λ y. true) o) false) e)))
function_there (n ∷ names) [] i t f d e g = absurd (true≢false (sym (ap (λ o. unwrap_or (option_map (λ y. true) o) false) g)))
function_there (n ∷ names) (x ∷ fs) zero t f d e g =
    let is : n ≡ t = ap (λ o. unwrap_or o n) e in
    ap (λ b. if b then x else function_at names fs t) ((bytes_eq-Decides n t).1 is) ∙ ap (λ o. unwrap_or o x) g
function_there (n ∷ names) (x ∷ fs) (suc i) t f d e g = go (bytes_eq n t) refl (function_there names fs i t f (and_parts (not (is_one_of names n)) (are_distinct names) d).1 e g)
  where
    found : (ns : List Text) (j : ℕ) → slice_get ns j ≡ Some t → is_one_of ns t ≡ true
    found [] j h = absurd (true≢false (sym (ap (λ o. unwrap_or (option_map (λ y. true) o) false) h)))
    found (m ∷ ns) zero h = ap (λ b. b || is_one_of ns t) ((bytes_eq-Decides m t).1 (ap (λ o. unwrap_or o m) h))
    found (m ∷ ns) (suc j) h = later (bytes_eq m t) (is_one_of ns t) (found ns j h)
      where
        later : (a b : Bool) → b ≡ true → (a || b) ≡ true
        later true b k = refl
        later false b k = k

    go : (b : Bool) → bytes_eq n t ≡ b → function_at names fs t ≡ f → (if b then x else function_at names fs t) ≡ f
    go true q rest =
        absurd (true≢false (sym ((and_parts (not (is_one_of names n)) (are_distinct names) d).0) ∙ ap (λ u. not (is_one_of names u)) ((bytes_eq-Decides n t).0 q) ∙ ap not (found names i e)))
    go false q rest = rest

-- Two sheets of one script, each claiming what the other does

pub record Writable (x : CommandClaims) : Type 0 where
  pub before : is_writable x.before ≡ true
  pub zero : is_writable x.zero ≡ true
  pub nonzero : is_writable x.nonzero ≡ true
  pub head : is_writable_head x.head ≡ true

writable : (x : CommandClaims) → is_command x ≡ true → Writable x
writable x h =
    let three = and_parts (is_writable x.before && is_writable x.zero && is_writable x.nonzero) (is_writable_head x.head) h in
    let two = and_parts (is_writable x.before && is_writable x.zero) (is_writable x.nonzero) three.0 in
    let one = and_parts (is_writable x.before) (is_writable x.zero) two.0 in
    record { before = one.0; zero = one.1; nonzero = two.1; head = three.1 }

pub record FunctionWritable (x : FunctionClaims) : Type 0 where
  pub before : is_writable x.before ≡ true
  pub drops : are_writable x.drops ≡ true
  pub zero : is_writable x.zero ≡ true
  pub nonzero : is_writable x.nonzero ≡ true

function_writable : (x : FunctionClaims) → is_function x ≡ true → FunctionWritable x
function_writable x h =
    let three = and_parts (is_writable x.before && are_writable x.drops && is_writable x.zero) (is_writable x.nonzero) h in
    let two = and_parts (is_writable x.before && are_writable x.drops) (is_writable x.zero) three.0 in
    let one = and_parts (is_writable x.before) (are_writable x.drops) two.0 in
    record { before = one.0; drops = one.1; zero = two.1; nonzero = three.1 }

moved : {X : Type 0} (part : X → Claim) (u v x y : X) → u ≡ x → v ≡ y → IsWithin (facts (part u)) (facts (part v)) → IsWithin (facts (part x)) (facts (part y))
moved part u v x y p q h = subst (λ z. IsWithin (facts (part x)) (facts (part z))) q (subst (λ z. IsWithin (facts (part z)) (facts (part v))) p h)

module _ (names functions : List Text) (ls : List Bool) (c e : Sheet) (down : IsBelow (certificate_of functions c) (certificate_of functions e))
    (up : IsBelow (certificate_of functions e) (certificate_of functions c)) (fit_c : fits names ls (length functions) c ≡ true) (fit_e : fits names ls (length functions) e ≡ true)
    (sheet_c : IsSheet c) (sheet_e : IsSheet e) (distinct : are_distinct functions ≡ true) where
  same_command : (i : ℕ) (x y : CommandClaims) → slice_get c.commands i ≡ Some x → slice_get e.commands i ≡ Some y → x ≡ y
  unfolding claim_at
  same_command i x y p q =
      let a = at_index c i x p in
      let b = at_index e i y q in
      let v = writable x (all_at is_command c.commands i x sheet_c.commands p) in
      let w = writable y (all_at is_command e.commands i y sheet_e.commands q) in
      let f = fits_at names ls c.commands i x (and_parts (commands_fit names ls c.commands) (functions_fit names (length functions) c.functions) fit_c).0 p in
      let g = fits_at names ls e.commands i y (and_parts (commands_fit names ls e.commands) (functions_fit names (length functions) e.functions) fit_e).0 q in
      let loop : g.is_loop ≡ f.is_loop = ap (λ o. unwrap_or o false) (sym g.there ∙ f.there) in
      let before : x.before ≡ y.before =
      same_claim x.before y.before v.before w.before (moved (λ u. u.before) _ _ x y a b (down.claimed (Before (i + 1)))) (moved (λ u. u.before) _ _ y x b a (up.claimed (Before (i + 1)))) in
      let zeros : x.zero ≡ y.zero =
      same_claim x.zero y.zero v.zero w.zero (moved (λ u. u.zero) _ _ x y a b (down.claimed (AfterZero (i + 1)))) (moved (λ u. u.zero) _ _ y x b a (up.claimed (AfterZero (i + 1)))) in
      let others : x.nonzero ≡ y.nonzero =
      same_claim x.nonzero y.nonzero v.nonzero w.nonzero (moved (λ u. u.nonzero) _ _ x y a b (down.claimed (AfterNonzero (i + 1))))
      (moved (λ u. u.nonzero) _ _ y x b a (up.claimed (AfterNonzero (i + 1)))) in
      let heads : x.head ≡ y.head =
      same_head names f.is_loop x.head y.head f.head (subst (λ l. head_fits names l y.head ≡ true) loop g.head) v.head w.head
      (moved (λ u. unwrap_or u.head Unreached) _ _ x y a b (down.claimed (Head (i + 1)))) (moved (λ u. unwrap_or u.head Unreached) _ _ y x b a (up.claimed (Head (i + 1)))) in
      λ j. record { before = before j; zero = zeros j; nonzero = others j; head = heads j }

  as_many_functions : (s : Sheet) → fits names ls (length functions) s ≡ true → length s.functions ≡ length functions
  as_many_functions s h =
      let own = (and_parts (commands_fit names ls s.commands) (functions_fit names (length functions) s.functions) h).1 in
      let equal = (and_parts (nat_eq (length s.functions) (length functions)) (list_all (function_fits names) s.functions) own).0 in
      grind (arith, nat_tests)

  -- the name of the function of an index
  name_at : (fs : List FunctionClaims) (ns : List Text) (i : ℕ) (f : FunctionClaims) → length fs ≡ length ns → slice_get fs i ≡ Some f → (t : Text) × (slice_get ns i ≡ Some t)
  name_at [] ns i f l h = absurd (true≢false (sym (ap (λ o. unwrap_or (option_map (λ y. true) o) false) h)))
  name_at (x ∷ fs) [] i f l h = absurd (omega arith)
  name_at (x ∷ fs) (n ∷ ns) zero f l h = (n, refl)
  name_at (x ∷ fs) (n ∷ ns) (suc i) f l h = name_at fs ns i f (omega arith) h

  same_function : (i : ℕ) (x y : FunctionClaims) → slice_get c.functions i ≡ Some x → slice_get e.functions i ≡ Some y → x ≡ y
  unfolding claim_at
  same_function i x y p q =
      let n = name_at c.functions functions i x (as_many_functions c fit_c) p in
      let a = function_there functions c.functions i n.0 x distinct n.1 p in
      let b = function_there functions e.functions i n.0 y distinct n.1 q in
      let v = function_writable x (all_at is_function c.functions i x sheet_c.functions p) in
      let w = function_writable y (all_at is_function e.functions i y sheet_e.functions q) in
      let before : x.before ≡ y.before =
      same_claim x.before y.before v.before w.before (moved (λ u. u.before) _ _ x y a b (down.claimed (Entry n.0))) (moved (λ u. u.before) _ _ y x b a (up.claimed (Entry n.0))) in
      let zeros : x.zero ≡ y.zero =
      same_claim x.zero y.zero v.zero w.zero (moved (λ u. u.zero) _ _ x y a b (down.claimed (ReturnsZero n.0))) (moved (λ u. u.zero) _ _ y x b a (up.claimed (ReturnsZero n.0))) in
      let others : x.nonzero ≡ y.nonzero =
      same_claim x.nonzero y.nonzero v.nonzero w.nonzero (moved (λ u. u.nonzero) _ _ x y a b (down.claimed (ReturnsNonzero n.0)))
      (moved (λ u. u.nonzero) _ _ y x b a (up.claimed (ReturnsNonzero n.0))) in
      let fewer : AreAmong y.drops x.drops = dropped (down.dropped n.0) a b in
      let more : AreAmong x.drops y.drops = dropped (up.dropped n.0) b a in
      let drops : x.drops ≡ y.drops = same_drops x.drops y.drops v.drops w.drops more fewer in
      λ j. record { before = before j; drops = drops j; zero = zeros j; nonzero = others j }
    where
      dropped : {u v x y : FunctionClaims} → AreAmong v.drops u.drops → u ≡ x → v ≡ y → AreAmong y.drops x.drops
      dropped {u} {v} {x} {y} h p q = subst (λ z. AreAmong z.drops x.drops) q (subst (λ z. AreAmong v.drops z.drops) p h)

  pub same_sheet : c ≡ e
  same_sheet =
      let commands : c.commands ≡ e.commands =
      same_rows c.commands e.commands
      (as_many names ls c.commands (and_parts (commands_fit names ls c.commands) (functions_fit names (length functions) c.functions) fit_c).0
      ∙ sym (as_many names ls e.commands (and_parts (commands_fit names ls e.commands) (functions_fit names (length functions) e.functions) fit_e).0)) same_command in
      let rest : c.functions ≡ e.functions = same_rows c.functions e.functions (as_many_functions c fit_c ∙ sym (as_many_functions e fit_e)) same_function in
      λ j. record { commands = commands j; functions = rest j }
