-- What is kept of the places that a walk reports, and what was reported.
use Rattle.std.proofs.Common.{◌≡◌, ◌<◌, ℕ, Bool, true, false, if◌then◌else◌, List, [], ◌∷◌, ◌++◌, drop, length, Result, Ok, Err, OnOk, IfOk, IfErr, Vec, Global, sym, ap, ap₂, subst, ◌∙◌, arith, true≢false}
use Rattle.std.specs.List.{list_any}
use Rattle.std.specs.Result.{is_err}
use Rattle.std.specs.Str.{bytes_eq}
use Rattle.std.proofs.lemmas.List.{length-append}
use Rattle.sh_tree.specs.declared.place.Place.{Place}
use Rattle.sh_tree.specs.standard.program.Syntax as p
use Rattle.sh_tree.specs.standard.program.Syntax.{Text}
use Rattle.sh_runs.specs.Calls.{texts_with}
use Rattle.sh_runs.specs.Profile.{Static}
use Rattle.sh_domain.specs.Demands.{drop_at, move_at}
use Rattle.sh_demands.specs.declared.reports.Reports.{Reports}
use Rattle.sh_demands.specs.Drops.{once_told, all_told}
use Rattle.sh_demands.specs.Moves.{moves_by}
use Rattle.sh_demands.specs.Places.{Source, sharing, texts_drops}
use Rattle.sh_demands.specs.Reported.{AreKept, AreKeptSince, HasReported, HasReportedSince}

some_more : (ps : List Place) (x : Place) → 0 < length (ps ++ x ∷ [])
some_more ps x = omega (arith, length-append ps (x ∷ []))

pub lost_more : (kept ps : List Place) (x : Place) → AreKept true kept (ps ++ x ∷ [])
unfolding AreKept
lost_more kept ps x = some_more ps x

pub short_more : (b : Bool) (kept ps : List Place) (x : Place) → b ≡ true → AreKept b kept (ps ++ x ∷ [])
unfolding AreKept
short_more true kept ps x e = some_more ps x
short_more false kept ps x e = absurd (true≢false (sym e))

pub kept_more : {E : Type 0} (r : Result (Unit {0}) E) (old new : Bool) (kept more ps : List Place) (x : Place) → old ≡ false → new ≡ old → is_err r ≡ false
    → OnOk r (more ≡ kept ++ x ∷ []) → AreKept old kept ps → AreKept new more (ps ++ x ∷ [])
unfolding AreKept
kept_more r true new kept more ps x e f n o h = absurd (true≢false e)
kept_more r false true kept more ps x e f n o h = absurd (true≢false f)
kept_more (Err a) false false kept more ps x e f n o h = absurd (true≢false n)
kept_more (Ok u) false false kept more ps x e f n o h = o ∙ ap (λ qs. qs ++ x ∷ []) h

pub all_kept : (b : Bool) (kept ps : List Place) → b ≡ false → AreKept b kept ps → kept ≡ ps
unfolding AreKept
all_kept true kept ps e h = absurd (true≢false e)
all_kept false kept ps e h = h

pub some_lost : (b : Bool) (kept ps : List Place) → b ≡ true → AreKept b kept ps → 0 < length ps
unfolding AreKept
some_lost true kept ps e h = h
some_lost false kept ps e h = absurd (true≢false (sym e))

-- from an index on

pub since_here : (b : Bool) (kept ps : List Place) (start : ℕ) → start ≡ length kept → AreKept b kept ps → AreKeptSince b kept start (length ps) ps
unfolding AreKept AreKeptSince
since_here true kept ps start e h = h
since_here false kept ps start e h = (h, e ∙ ap length h)

pub since_before : (b : Bool) (kept ps : List Place) (start k : ℕ) → AreKeptSince b kept start k ps → AreKept b kept ps
unfolding AreKept AreKeptSince
since_before true kept ps start k h = h
since_before false kept ps start k h = h.0

if_some : (b : Bool) (ps : List Place) (x : Place) → 0 < length ps → 0 < length (if b then ps else ps ++ x ∷ [])
if_some true ps x h = h
if_some false ps x h = some_more ps x

-- a name about which a place is kept
pub once_kept : (b : Bool) (kept : List Place) (start k at : ℕ) (ps : List Place) (t : Text) → list_any (λ (x : Place). bytes_eq x.subject t) (drop start kept) ≡ true
    → AreKeptSince b kept start k ps → AreKeptSince b kept start k (once_told k at ps t)
unfolding AreKeptSince once_told
once_kept true kept start k at ps t e h = if_some (list_any (λ (x : Place). bytes_eq x.subject t) (drop k ps)) ps (drop_at at t) h
once_kept false kept start k at ps t e h =
    let same : list_any (λ (x : Place). bytes_eq x.subject t) (drop k ps) ≡ true =
    ap₂ (λ (n : ℕ) (qs : List Place). list_any (λ (x : Place). bytes_eq x.subject t) (drop n qs)) (sym h.1) (sym h.0) ∙ e in
    rw same h

-- one about which none is kept
pub once_added : (b c : Bool) (kept new : List Place) (start k at : ℕ) (ps : List Place) (t : Text) → list_any (λ (x : Place). bytes_eq x.subject t) (drop start kept) ≡ false
    → ((qs : List Place) → AreKept b kept qs → AreKept c new (qs ++ drop_at at t ∷ [])) → AreKeptSince b kept start k ps → AreKeptSince c new start k (once_told k at ps t)
unfolding AreKeptSince AreKept once_told
once_added true true kept new start k at ps t e f h = if_some (list_any (λ (x : Place). bytes_eq x.subject t) (drop k ps)) ps (drop_at at t) h
once_added true false kept new start k at ps t e f h =
    let one : new ≡ ps ++ drop_at at t ∷ [] = f ps h in
    let two : new ≡ (ps ++ drop_at at t ∷ []) ++ drop_at at t ∷ [] = f (ps ++ drop_at at t ∷ []) (some_more ps (drop_at at t)) in
    let longer : length (ps ++ drop_at at t ∷ []) ≡ length ((ps ++ drop_at at t ∷ []) ++ drop_at at t ∷ []) = ap length (sym one ∙ two) in
    absurd (omega (arith, longer, length-append (ps ++ drop_at at t ∷ []) (drop_at at t ∷ [])))
once_added false c kept new start k at ps t e f h =
    let none : list_any (λ (x : Place). bytes_eq x.subject t) (drop k ps) ≡ false =
    ap₂ (λ (n : ℕ) (qs : List Place). list_any (λ (x : Place). bytes_eq x.subject t) (drop n qs)) (sym h.1) (sym h.0) ∙ e in
    rw none (go c (f ps h.0))
  where
    go : (c : Bool) → AreKept c new (ps ++ drop_at at t ∷ []) → AreKeptSince c new start k (ps ++ drop_at at t ∷ [])
    go true r = r
    go false r = (r, h.1)

-- places after those that were reported
pub since_added : (b c : Bool) (kept new xs : List Place) (step : List Place → List Place) → ((ps : List Place) → step ps ≡ ps ++ xs)
    → ((ps : List Place) → AreKept b kept ps → AreKept c new (step ps)) → (start k : ℕ) (ps : List Place) → AreKeptSince b kept start k ps → AreKeptSince c new start k (step ps)
unfolding AreKept AreKeptSince
since_added true true kept new xs step same f start k ps h = f ps h
since_added true false kept new xs step same f start k ps h =
    let some : 0 < length (ps ++ ps) = omega (arith, h, length-append ps ps) in
    let longer : length (ps ++ xs) ≡ length ((ps ++ ps) ++ xs) = ap length (sym (same ps) ∙ sym (f ps h) ∙ f (ps ++ ps) some ∙ same (ps ++ ps)) in
    absurd (omega (arith, h, longer, length-append ps xs, length-append (ps ++ ps) xs, length-append ps ps))
since_added false c kept new xs step same f start k ps h = go c (f ps h.0)
  where
    go : (c : Bool) → AreKept c new (step ps) → AreKeptSince c new start k (step ps)
    go true r = r
    go false r = (r, h.1)

-- a simple command
pub simple_told : (s : Source) (n at : ℕ) (es : p.Elements) (old mid new : Reports) (start : ℕ) (ts : List Static) (moved : Bool) → start ≡ length old.places.items → ts ≡ texts_with n s.table.rows → moved ≡ moves_by ts
    → ((ps : List Place) → HasReportedSince old start (length ps) ps → HasReportedSince mid start (length ps) (all_told (length ps) at ps (texts_drops s n es ts)))
    → ((ps : List Place) → HasReported mid ps → HasReported new (ps ++ move_at at moved))
    → (ps : List Place) → HasReported old ps → HasReported new (sharing s n at ps es)
unfolding sharing
simple_told s n at es old mid new start ts moved l e m dropped behind ps h =
    let drops = all_told (length ps) at ps (texts_drops s n es ts) in
    subst (λ (us : List Static). HasReported new (all_told (length ps) at ps (texts_drops s n es us) ++ move_at at (moves_by us))) e
    (subst (λ (b : Bool). HasReported new (drops ++ move_at at b)) m
    (behind drops (since_before mid.is_short mid.places.items drops start (length ps) (dropped ps (since_here old.is_short old.places.items ps start l h)))))

-- all that was reported

pub places_are : {D E : Type 0} (r : Result (Vec Place Global) E) (x : Reports) (ps : List Place) (f : D → List Place) → HasReported x ps → ((d : D) → ps ≡ f d)
    → IfOk r (λ v. (qs : List Place) → HasReported x qs → v.items ≡ qs) → IfOk r (λ v. (d : D) → v.items ≡ f d)
places_are (Ok v) x ps f h e k = λ d. k ps h ∙ e d
places_are (Err a) x ps f h e k = tt

pub some_are : {D E : Type 0} (r : Result (Vec Place Global) E) (x : Reports) (ps : List Place) (f : D → List Place) → HasReported x ps → ((d : D) → ps ≡ f d)
    → IfErr r (λ _. (qs : List Place) → HasReported x qs → 0 < length qs) → IfErr r (λ _. (d : D) → 0 < length (f d))
some_are (Ok v) x ps f h e k = tt
some_are (Err a) x ps f h e k = λ d. subst (λ (qs : List Place). 0 < length qs) (e d) (k ps h)
