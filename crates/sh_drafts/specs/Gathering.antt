-- What is gathered of one thing that the flow rules ask.
-- The standard has no such rules: what is claimed of a place has to be known there in every run.
use Rattle.std.specs.Prelude.{◌≡◌, ℕ, Bool, true, false, ◌&&◌, ◌||◌, if◌then◌else◌, List, [], ◌++◌, Option, Some, None, option_and_then, slice_get}
use Rattle.std.proofs.Common.{refl, sym, ap, ap₂, ◌∙◌}
use Rattle.std.specs.List.{list_all}
use Rattle.std.specs.Str.{bytes_eq}
use Rattle.std.proofs.Math.Path.{fun_ext}
use Rattle.std.proofs.lemmas.List.Folds.{list_all-append, list_any-append}
use Rattle.sh_tree.specs.standard.program.Syntax.{Text}
use Rattle.sh_runs.specs.standard.runs.Environment.{is_one_of}
use Rattle.sh_domain.specs.Faults.{are_among}
use Rattle.sh_domain.specs.Names.{number_of}
use Rattle.sh_domain.specs.Operands.{Names, no_names}
use Rattle.sh_drafts.specs.Facts as number
use Rattle.sh_drafts.specs.declared.place.Place.{Place}
use Rattle.sh_drafts.specs.Gathered.{Gathered, fitting, is_number, next_of, next_place_of, next_function_of, counted}
use Rattle.sh_drafts.specs.Numbers.{name_passes, numbers_in}
use Rattle.sh_drafts.specs.Working.{Sets, joined}

-- Clauses of private functions

-- something more is required of a place, or of a function, which is kept or not
abbrev pub tested_at : Option Place → Bool → Gathered → Gathered
tested_at o kept g = record g { kept = g.kept && kept; next_place = next_place_of o kept g }

abbrev pub tested_by : Option ℕ → Bool → Gathered → Gathered
tested_by o kept g = record g { kept = g.kept && kept; next_function = next_function_of o kept g }

-- this is known at the place too
abbrev pub met : number.Facts → Gathered → Gathered
met f g = record g { known = number.meet g.known f }

-- the function has to drop these too
abbrev pub with_sets : Sets → Gathered → Gathered
with_sets z g = record g { sets = joined z g.sets }

-- Things that are required together

pub and_over : (a b c : Bool) → ((a && b) && c) ≡ (a && (b && c))
and_over true b c = refl
and_over false b c = refl

pub three : {A B C D : Type 0} (f : A → B → C → D) {a b : A} {c d : B} {e g : C} → a ≡ b → c ≡ d → e ≡ g → f a c e ≡ f b d g
three f {b = b} {d = d} {e = e} x y z = ap₂ (λ p q. f p q e) x y ∙ ap (f b d) z

-- what is next is the same again
pub next_twice : {A : Type 0} (t x y : Bool) (o : Option A) (n : A) → next_of ((x && y) || t) o n ≡ next_of (y || t) o (next_of (x || t) o n)
unfolding next_of
next_twice t true y o n = refl
next_twice true false true o n = refl
next_twice true false false o n = refl
next_twice false false true o n = refl
next_twice false false false None n = refl
next_twice false false false (Some a) n = refl

-- Names that are dropped together

pub and_true : (b : Bool) → (b && true) ≡ b
and_true true = refl
and_true false = refl

pub or_false : (b : Bool) → (b || false) ≡ b
or_false true = refl
or_false false = refl

pub none_passes : (o : Option Text) → name_passes (is_one_of []) o ≡ false
unfolding name_passes
none_passes None = refl
none_passes (Some t) = refl

module _ (names functions : List Text) where
  no_more : (s : Sets) → joined (numbers_in names no_names) s ≡ s
  no_more s =
      ap₂ (λ (v f : ℕ → Bool). record { vars = v; functions = f })
      (fun_ext (λ k. ap (λ b. s.vars k || b) (none_passes (slice_get names k)) ∙ or_false (s.vars k)))
      (fun_ext (λ k. ap (λ b. s.functions k || b) (none_passes (slice_get names k)) ∙ or_false (s.functions k)))

  same_if : {A : Type 0} (b : Bool) (x y : A) → x ≡ y → (if b then x else y) ≡ y
  same_if true x y e = e
  same_if false x y e = refl

  pub drops_nothing : (f : Text) (may : Names) (g : Gathered) → counted names functions f may no_names g ≡ g
  unfolding counted are_among next_of
  drops_nothing f may g = ap₂ (λ (k : Bool) (s : Sets). record g { kept = k; sets = s }) (and_true g.kept) (same_if (is_number (number_of functions f) g.function) _ g.sets (no_more g.sets))

  -- a name that is lost of two lists
  both_pass : (ts us : List Text) (o : Option Text) → name_passes (is_one_of (ts ++ us)) o ≡ (name_passes (is_one_of ts) o || name_passes (is_one_of us) o)
  unfolding name_passes
  both_pass ts us None = refl
  both_pass ts us (Some t) = list_any-append (λ u. bytes_eq u t) ts us

  or_grouped : (a b c : Bool) → (a || (b || c)) ≡ ((a || b) || c)
  or_grouped true b c = refl
  or_grouped false b c = refl

  both_joined : (v w x y : List Text) (s : Sets) → joined (numbers_in names (record { vars = v ++ w; functions = x ++ y })) s
      ≡ joined (numbers_in names (record { vars = w; functions = y })) (joined (numbers_in names (record { vars = v; functions = x })) s)
  both_joined v w x y s =
      ap₂ (λ (p q : ℕ → Bool). record { vars = p; functions = q })
      (fun_ext (λ k. ap (λ b. s.vars k || b) (both_pass v w (slice_get names k)) ∙ or_grouped (s.vars k) _ _))
      (fun_ext (λ k. ap (λ b. s.functions k || b) (both_pass x y (slice_get names k)) ∙ or_grouped (s.functions k) _ _))

  regrouped : (v w x y : Bool) → ((v && w) && (x && y)) ≡ ((v && x) && (w && y))
  regrouped false w x y = refl
  regrouped true w false y = and_none w
    where
      and_none : (b : Bool) → (b && false) ≡ false
      and_none true = refl
      and_none false = refl
  regrouped true w true y = refl

  among_both : (may : Names) (v w x y : List Text)
      → are_among (record { vars = v ++ w; functions = x ++ y }) may ≡ (are_among (record { vars = v; functions = x }) may && are_among (record { vars = w; functions = y }) may)
  unfolding are_among
  among_both may v w x y =
      ap (λ b. b && list_all (is_one_of may.functions) (x ++ y)) (list_all-append (is_one_of may.vars) v w)
      ∙ ap (λ b. (list_all (is_one_of may.vars) v && list_all (is_one_of may.vars) w) && b) (list_all-append (is_one_of may.functions) x y)
      ∙ regrouped (list_all (is_one_of may.vars) v) (list_all (is_one_of may.vars) w) (list_all (is_one_of may.functions) x) (list_all (is_one_of may.functions) y)

  if_both : {A : Type 0} (b : Bool) (f g : A → A) (h : A → A) (x : A) → ((y : A) → h y ≡ g (f y)) → (if b then h x else x) ≡ (if b then g (if b then f x else x) else (if b then f x else x))
  if_both true f g h x e = e x
  if_both false f g h x e = refl

  -- names together ask what they ask one after the other
  pub drops_both : (f : Text) (may : Names) (v w x y : List Text) (g : Gathered)
      → counted names functions f may (record { vars = v ++ w; functions = x ++ y }) g
      ≡ counted names functions f may (record { vars = w; functions = y }) (counted names functions f may (record { vars = v; functions = x }) g)
  unfolding counted
  drops_both f may v w x y g =
      let first = are_among (record { vars = v; functions = x }) may in
      let last = are_among (record { vars = w; functions = y }) may in
      let both : are_among (record { vars = v ++ w; functions = x ++ y }) may ≡ (first && last) = among_both may v w x y in
      let t = is_number (number_of functions f) g.function in
      three (λ (k : Bool) (s : Sets) (n : ℕ). record g { kept = k; sets = s; next_function = n }) (ap (λ b. g.kept && b) both ∙ sym (and_over g.kept first last))
      (if_both t (joined (numbers_in names (record { vars = v; functions = x }))) (joined (numbers_in names (record { vars = w; functions = y })))
      (joined (numbers_in names (record { vars = v ++ w; functions = x ++ y }))) g.sets (both_joined v w x y))
      (ap (λ b. next_of (b || t) (option_and_then fitting (number_of functions f)) g.next_function) both ∙ next_twice t first last (option_and_then fitting (number_of functions f)) g.next_function)
