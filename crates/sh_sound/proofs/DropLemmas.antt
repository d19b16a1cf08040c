-- What a step may drop, and what callers keep all the same.
use Rattle.std.proofs.Common.{◌≡◌, ℕ, ◌+◌, Bool, true, false, if◌then◌else◌, List, [], ◌∷◌, Option, Some, None, is_some, bytes_eq, refl, sym, ◌∙◌, subst, true≢false}
use Rattle.std.specs.List.{list_all}
use Rattle.std.proofs.lemmas.Bool.{and_from, and_parts, or_parts}
use Rattle.sh_tree.specs.standard.language.Bytes.{is_name}
use Rattle.sh_tree.specs.standard.program.Syntax.{Text}
use Rattle.sh_runs.specs.standard.runs.Builtins.{restored}
use Rattle.sh_runs.specs.standard.runs.Environment.{Environment, Frame, is_one_of, put_text, with_variable}
use Rattle.sh_runs.specs.standard.runs.Work.{Saved, Work, Items, Links, Pipeline, Negation, Command, Words, Prepare, Utility, Call, Return, Compound, If, Then, Test, Again, ForWords, ForFields, Clauses, Patterns, Fall}
use Rattle.sh_runs.proofs.EnvironmentLemmas.{restored_kept}
use Rattle.sh_domain.specs.Entries.{Around, in_loop, items_after, links_after, pipeline_after}
use Rattle.sh_domain.specs.Facts.{Facts, NotReached, Known}
use Rattle.sh_domain.specs.Faults.{are_among}
use Rattle.sh_domain.specs.Inclusions.{MayDrop}
use Rattle.sh_domain.specs.Operands.{Names}
use Rattle.sh_domain.specs.Views.{Certificate, Seen, After, in_any_case, swapped, after_command}
use Rattle.sh_runs.proofs.PositionLemmas.{bytes_eq_swap}
use Rattle.sh_sound.specs.Holding.{Holds, Grows}
use Rattle.sh_sound.specs.Going.{around, number_of, unset_before, OfFirst, Apart, FrontGood, Good, Stays}
use Rattle.sh_sound.proofs.HoldLemmas.{all_one}
use Rattle.sh_sound.proofs.ExpansionLemmas.{assigned_grows}

-- Names among others

none_of : (xs ys : List Text) → list_all (is_one_of ys) xs ≡ true → ys ≡ [] → xs ≡ []
none_of [] ys h e = refl
none_of (x ∷ xs) ys h e =
    absurd (true≢false (sym (subst (λ zs. is_one_of zs x ≡ true) e (and_parts (is_one_of ys x) (list_all (is_one_of ys) xs) h).0)))

among_none : (a b : Names) → are_among a b ≡ true → b.vars ≡ [] → b.functions ≡ [] → (a.vars ≡ []) × (a.functions ≡ [])
unfolding are_among
among_none a b h v g =
    let both = and_parts (list_all (is_one_of b.vars) a.vars) (list_all (is_one_of b.functions) a.functions) h in
    (none_of a.vars b.vars both.0 v, none_of a.functions b.functions both.1 g)

list_among : (xs ys zs : List Text) → list_all (is_one_of ys) xs ≡ true → list_all (is_one_of zs) ys ≡ true → list_all (is_one_of zs) xs ≡ true
list_among [] ys zs h k = refl
list_among (x ∷ xs) ys zs h k =
    let both = and_parts (is_one_of ys x) (list_all (is_one_of ys) xs) h in and_from (is_one_of zs x) (list_all (is_one_of zs) xs) (all_one (is_one_of zs) ys x k both.0) (list_among xs ys zs both.1 k)

pub among_trans : (a b z : Names) → are_among a b ≡ true → are_among b z ≡ true → are_among a z ≡ true
unfolding are_among
among_trans a b z h k =
    let first = and_parts (list_all (is_one_of b.vars) a.vars) (list_all (is_one_of b.functions) a.functions) h in
    let second = and_parts (list_all (is_one_of z.vars) b.vars) (list_all (is_one_of z.functions) b.functions) k in
    and_from (list_all (is_one_of z.vars) a.vars) (list_all (is_one_of z.functions) a.functions) (list_among a.vars b.vars z.vars first.0 second.0) (list_among a.functions b.functions z.functions first.1 second.1)

-- one that is not among the more is not among the fewer
not_more : (xs ys : List Text) (t : Text) → list_all (is_one_of ys) xs ≡ true → is_one_of ys t ≡ false → is_one_of xs t ≡ false
not_more xs ys t h k = go (is_one_of xs t) refl
  where
    go : (b : Bool) → is_one_of xs t ≡ b → is_one_of xs t ≡ false
    go true e = absurd (true≢false (sym (all_one (is_one_of ys) xs t h e) ∙ k))
    go false e = e

-- Every variable with a name that was set still is, every function with one is still defined, and
-- so `!`, except for these names.
pub record Spares (names : Names) (e e' : Environment) : Type 0 where
  pub variables : (t : Text) → is_name t ≡ true → is_one_of names.vars t ≡ false → is_some (e.variables t) ≡ true → is_some (e'.variables t) ≡ true
  pub functions : (t : Text) → is_name t ≡ true → is_one_of names.functions t ≡ false → is_some (e.functions t) ≡ true → is_some (e'.functions t) ≡ true
  pub job : e.job ≡ true → e'.job ≡ true

pub spares_more : (a b : Names) (e e' : Environment) → are_among a b ≡ true → Spares a e e' → Spares b e e'
unfolding are_among
spares_more a b e e' h k =
    let both = and_parts (list_all (is_one_of b.vars) a.vars) (list_all (is_one_of b.functions) a.functions) h in
    record {
      variables = λ t i n s. k.variables t i (not_more a.vars b.vars t both.0 n) s;
      functions = λ t i n s. k.functions t i (not_more a.functions b.functions t both.1 n) s;
      job = k.job;
    }

-- where nothing is named everything stays
pub spares_grow : (names : Names) (e e' : Environment) → names.vars ≡ [] → names.functions ≡ [] → Spares names e e' → Grows e e'
spares_grow names e e' v g k = record {
  variables = λ t i s. k.variables t i (subst (λ xs. is_one_of xs t ≡ false) (sym v) refl) s;
  functions = λ t i s. k.functions t i (subst (λ xs. is_one_of xs t ≡ false) (sym g) refl) s;
  job = k.job;
}

-- facts that claim none of the names stay true
pub apart_holds : (x : Facts) (names : Names) (e e' : Environment) (f : Frame) → Apart x names → Spares names e e' → Holds x e f → Holds x e' f
unfolding Apart Holds
apart_holds NotReached names e e' f a k h = h
apart_holds (Known v g n) names e e' f a k h = record {
  variables = λ t i s. k.variables t i (unclaimed (is_one_of names.vars) v t a.0 s) (h.variables t i s);
  job = λ s. k.job (h.job s);
  functions = λ t i s. k.functions t i (unclaimed (is_one_of names.functions) g t a.1 s) (h.functions t i s);
  parameters = h.parameters;
}
  where
    unclaimed : (among claimed : Text → Bool) (t : Text) → ((u : Text) → among u ≡ true → claimed u ≡ false) → claimed t ≡ true → among t ≡ false
    unclaimed among claimed t a s = go (among t) refl
      where
        go : (b : Bool) → among t ≡ b → among t ≡ false
        go true e = absurd (true≢false (sym s ∙ a t e))
        go false e = e

-- The names of prefix assignments

abbrev pub unset_names : Saved → Names
unset_names saved = record { vars = unset_before saved; functions = [] }

-- a variable that is not named stays
pub put_apart : (e : Environment) (name t : Text) (v : Option Text) → bytes_eq name t ≡ false → is_some (e.variables t) ≡ true → is_some ((with_variable e name v).variables t) ≡ true
unfolding put_text
put_apart e name t v h s = rw (bytes_eq_swap t name ∙ h) s

-- whichever of the names are put back, only those are gone that were not set before
pub restored_spares : (restores : ℕ → Bool) (n : ℕ) (e : Environment) (saved : Saved) → Spares (unset_names saved) e (restored restores n e saved)
unfolding restored unset_before
restored_spares restores n e [] = record { variables = λ t i n s. s; functions = λ t i n s. s; job = λ s. s }
restored_spares restores n e ((name, Some v) ∷ xs) = go (restores n) (λ x. restored_spares restores (n + 1) x xs)
  where
    go : (b : Bool) → ((x : Environment) → Spares (unset_names xs) x (restored restores (n + 1) x xs))
        → Spares (unset_names xs) e (restored restores (n + 1) (if b then with_variable e name (Some v) else e) xs)
    go true rest =
        let k = rest (with_variable e name (Some v)) in
        record { variables = λ t i n s. k.variables t i n ((assigned_grows e name v).variables t i s); functions = k.functions; job = k.job }
    go false rest = rest e
restored_spares restores n e ((name, None) ∷ xs) = go (restores n) (λ x. restored_spares restores (n + 1) x xs)
  where
    go : (b : Bool) → ((x : Environment) → Spares (unset_names xs) x (restored restores (n + 1) x xs))
        → Spares (record { vars = name ∷ unset_before xs; functions = [] }) e (restored restores (n + 1) (if b then with_variable e name None else e) xs)
    go true rest =
        let k = rest (with_variable e name None) in
        record {
          variables = λ t i n s. let both = or_parts (bytes_eq name t) (is_one_of (unset_before xs) t) n in k.variables t i both.1 (put_apart e name t None both.0 s);
          functions = k.functions;
          job = k.job;
        }
    go false rest =
        let k = rest e in
        record { variables = λ t i n s. k.variables t i (or_parts (bytes_eq name t) (is_one_of (unset_before xs) t) n).1 s; functions = k.functions; job = k.job }

pub restored_functions : (restores : ℕ → Bool) (n : ℕ) (e : Environment) (saved : Saved) → (restored restores n e saved).functions ≡ e.functions
restored_functions restores n e saved = restored_kept (λ (x : Environment). x.functions ≡ e.functions) (λ x name v h. h) restores n e saved refl

module _ (d : Facts) (c : Certificate) where
  -- fewer may be dropped where more may
  pub drops_fewer : (x : Around) (a b : Names) → are_among a b ≡ true → MayDrop d c x b → MayDrop d c x a
  unfolding are_among
  drops_fewer x a b h k =
      let both = and_parts (list_all (is_one_of b.vars) a.vars) (list_all (is_one_of b.functions) a.functions) h in
      record {
        shared_vars = λ s. none_of a.vars b.vars both.0 (k.shared_vars s);
        shared_functions = λ s. none_of a.functions b.functions both.1 (k.shared_functions s);
        counted = λ f e. among_trans a b (c.drops f) h (k.counted f e);
      }

  -- a loop counts no drops
  loop_drops : (n : ℕ) (x : Around) (names : Names) → MayDrop d c (in_loop n x) names → MayDrop d c x names
  loop_drops n x names h = record { shared_vars = h.shared_vars; shared_functions = h.shared_functions; counted = h.counted }

  module _ (defined : List Text) (SimpleAt : Around → Work → Seen → Type 0) where
    -- what is known after the front
    pub front_goes : (x : Around) (w : Work) (K : After → Type 0) (q : After) → FrontGood d c defined SimpleAt x w K q → (r : After) × K r
    unfolding FrontGood
    front_goes x (Items is) K q h = (items_after q is, h.1)
    front_goes x (Links ls) K q h = (links_after q ls, h.1)
    front_goes x (Pipeline pipe) K q h = (pipeline_after (in_any_case q) pipe, h.1)
    front_goes x Negation K q h = (swapped true q, h)
    front_goes x (Command k) K q h = (after_command (number_of k), h.1)
    front_goes x (Words k left fields rs xs) K q h = absurd h
    front_goes x (Prepare k fields rs xs failed) K q h = (after_command k.number, h.1)
    front_goes x (Utility k name operands rs xs prefixes values) K q h = (after_command k.number, h.1)
    front_goes x (Call n f operands body rs xs saved) K q h = (after_command n, h.1)
    front_goes x (Return n f saved) K q h = absurd h
    front_goes x (Compound n rs kind) K q h = (after_command n, h.1)
    front_goes x (If n cases otherwise) K q h = (after_command n, h.1)
    front_goes x (Then n body cases otherwise) K q h = (after_command n, h.3)
    front_goes x (Test n kind condition body last) K q h = (after_command n, h.2)
    front_goes x (Again n kind condition body) K q h = (after_command n, h.2)
    front_goes x (ForWords n name left fields body) K q h = (after_command n, h.3)
    front_goes x (ForFields n name fields body) K q h = (after_command n, h.2)
    front_goes x (Clauses n cs) K q h = (after_command n, h.2)
    front_goes x (Patterns n left body end rest) K q h = (after_command n, h.1)
    front_goes x (Fall n cs) K q h = (after_command n, h.1)

    -- In a part of a pipeline nothing may be dropped, whatever functions it is in.
    pub quiet_drop : (base : Around) (callers : List Facts) (ws : List Work) (o : After) → Good d c defined SimpleAt base callers ws o → base.shares ≡ true
        → (names : Names) → MayDrop d c (around base ws) names → (names.vars ≡ []) × (names.functions ≡ [])
    unfolding Good around OfFirst
    quiet_drop base callers [] o good shares names may = (may.shared_vars shares, may.shared_functions shares)
    quiet_drop base [] (Return n f saved ∷ ws) o good shares names may = absurd good
    quiet_drop base (kept ∷ callers) (Return n f saved ∷ ws) o good shares names may =
        let none = quiet_drop base callers ws (after_command n) good.2 shares (c.drops f) good.1.dropped in
        among_none names (c.drops f) (may.counted f refl) none.0 none.1
    quiet_drop base callers (Test n kind condition body last ∷ ws) o good shares names may =
        let next = front_goes (around base ws) (Test n kind condition body last) (λ r. Good d c defined SimpleAt base callers ws r) good.after good.goes in
        quiet_drop base callers ws next.0 next.1 shares names (loop_drops n (around base ws) names may)
    quiet_drop base callers (Again n kind condition body ∷ ws) o good shares names may =
        let next = front_goes (around base ws) (Again n kind condition body) (λ r. Good d c defined SimpleAt base callers ws r) good.after good.goes in
        quiet_drop base callers ws next.0 next.1 shares names (loop_drops n (around base ws) names may)
    quiet_drop base callers (ForFields n name fields body ∷ ws) o good shares names may =
        let next = front_goes (around base ws) (ForFields n name fields body) (λ r. Good d c defined SimpleAt base callers ws r) good.after good.goes in
        quiet_drop base callers ws next.0 next.1 shares names (loop_drops n (around base ws) names may)
    quiet_drop base callers (w ∷ ws) o good shares names may =
        let next = front_goes (around base ws) w (λ r. Good d c defined SimpleAt base callers ws r) good.after good.goes in
        quiet_drop base callers ws next.0 next.1 shares names may

    -- What callers keep outlives a drop that the functions round the place count.
    pub drop_stays : (base : Around) (callers : List Facts) (ws : List Work) (o : After) → Good d c defined SimpleAt base callers ws o
        → (names : Names) → MayDrop d c (around base ws) names → (e e' : Environment) (fs : List Frame) → Spares names e e' → Stays d c defined SimpleAt callers e fs → Stays d c defined SimpleAt callers e' fs
    unfolding Good around OfFirst Stays
    drop_stays base callers [] o good names may e e' fs spares h =
        subst (λ ks. Stays d c defined SimpleAt ks e' fs) (sym good.none_waits) (subst (λ ks. Stays d c defined SimpleAt ks e fs) good.none_waits h)
    drop_stays base [] (Return n f saved ∷ ws) o good names may e e' fs spares h = absurd good
    drop_stays base (kept ∷ callers) (Return n f saved ∷ ws) o good names may e e' [] spares h = h
    drop_stays base (kept ∷ callers) (Return n f saved ∷ ws) o good names may e e' (g ∷ []) spares h = h
    drop_stays base (kept ∷ callers) (Return n f saved ∷ ws) o good names may e e' (g ∷ outer ∷ fs) spares h =
        let more = spares_more names (c.drops f) e e' (may.counted f refl) spares in (
          apart_holds kept (c.drops f) e e' outer good.1.apart more h.0,
          drop_stays base callers ws (after_command n) good.2 (c.drops f) good.1.dropped e e' (outer ∷ fs) more h.1,
        )
    drop_stays base callers (Test n kind condition body last ∷ ws) o good names may e e' fs spares h =
        let next = front_goes (around base ws) (Test n kind condition body last) (λ r. Good d c defined SimpleAt base callers ws r) good.after good.goes in
        drop_stays base callers ws next.0 next.1 names (loop_drops n (around base ws) names may) e e' fs spares h
    drop_stays base callers (Again n kind condition body ∷ ws) o good names may e e' fs spares h =
        let next = front_goes (around base ws) (Again n kind condition body) (λ r. Good d c defined SimpleAt base callers ws r) good.after good.goes in
        drop_stays base callers ws next.0 next.1 names (loop_drops n (around base ws) names may) e e' fs spares h
    drop_stays base callers (ForFields n name fields body ∷ ws) o good names may e e' fs spares h =
        let next = front_goes (around base ws) (ForFields n name fields body) (λ r. Good d c defined SimpleAt base callers ws r) good.after good.goes in
        drop_stays base callers ws next.0 next.1 names (loop_drops n (around base ws) names may) e e' fs spares h
    drop_stays base callers (w ∷ ws) o good names may e e' fs spares h =
        let next = front_goes (around base ws) w (λ r. Good d c defined SimpleAt base callers ws r) good.after good.goes in
        drop_stays base callers ws next.0 next.1 names may e e' fs spares h
