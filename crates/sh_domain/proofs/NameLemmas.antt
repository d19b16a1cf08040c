-- Names by first sight, a piece at a time.
use Rattle.std.proofs.Common.{◌≡◌, ℕ, ◌+◌, ◌<◌, ◌≤◌, Bool, true, false, Err, List, [], ◌∷◌, ◌++◌, length, get_or, take, drop, map, fold, refl, sym, ◌∙◌, ap, subst, arith, if◌then◌else◌, Vec, Global, length-append}
use Rattle.std.specs.List.{flat_map, list_any}
use Rattle.std.specs.Str.{bytes_eq}
use Rattle.std.proofs.lemmas.Grind.{common_steps}
use Rattle.std.proofs.lemmas.List.{map-append, length-map, take-append-drop, take_more}
use Rattle.std.proofs.lemmas.List.Concat.{flat_map-append}
use Rattle.std.proofs.lemmas.List.Sums.{fold-append}
use Rattle.sh_tree.specs.declared.refusal.Refusal.{Refusal}
use Rattle.sh_tree.specs.declared.refusal.Refusal.TheVariants.{TooLong, NulByte, Syntax, LeftOut, TooDeep, TooMany, Memory, Profile, CertSyntax, CertShape}
use Rattle.sh_tree.specs.declared.tree.Script.{Script}
use Rattle.sh_tree.specs.standard.program.Syntax.{Text}
use Rattle.sh_runs.specs.standard.runs.Environment.{is_one_of}
use Rattle.sh_runs.proofs.PositionLemmas.{bytes_eq_swap}
use Rattle.sh_domain.specs.declared.sights.Seen.{Seen}
use Rattle.sh_domain.specs.Facts.{Declared}
use Rattle.sh_domain.specs.Names.{with_text, first_names, numbering, Numbers, IsInTextOrder, Refuses}
use Rattle.sh_domain.specs.Sights.{Sight}
use Rattle.sh_domain.specs.SightWalks.{seen_in, texts_seen}

-- a fold of names never gets shorter

longer-cond : (c : Bool) (names : List Text) (t : Text) → length names ≤ length (if c then names else names ++ t ∷ [])
longer-cond true names t = omega arith
longer-cond false names t = grind (arith, common_steps)

longer : (names : List Text) (ts : List Text) → length names ≤ length (fold with_text names ts)
longer names [] = omega arith
longer names (t ∷ ts) =
    let here = longer-cond (is_one_of names t) names t in
    let there = longer (with_text names t) ts in
    omega (arith, here, there)

-- what refuses a piece refuses what goes on from it
refuses-on : (names ts : List Text) (e : Refusal) → Refuses names e → Refuses (fold with_text names ts) e
refuses-on names ts TooMany h = let l = longer names ts in omega (arith, h, l)
refuses-on names ts Memory h = tt
refuses-on names ts TooLong h = absurd h
refuses-on names ts (NulByte a) h = absurd h
refuses-on names ts (Syntax f a) h = absurd h
refuses-on names ts (LeftOut f a) h = absurd h
refuses-on names ts (TooDeep a) h = absurd h
refuses-on names ts (Profile r a) h = absurd h
refuses-on names ts (CertSyntax a) h = absurd h
refuses-on names ts CertShape h = absurd h

pub refuses_more : (names xs ys : List Text) (e : Refusal) → Refuses (fold with_text names xs) e → Refuses (fold with_text names (xs ++ ys)) e
refuses_more names xs ys e h = rw (fold-append with_text names xs ys) (refuses-on (fold with_text names xs) ys e h)

-- a step of a loop over pieces

one_more : {X A : Type 0} (f : X → List A) (xs : List X) (i : ℕ) (x : X) → i < length xs → x ≡ get_or xs i x → flat_map f (take (i + 1) xs) ≡ flat_map f (take i xs) ++ f x
one_more f xs i x lt e = rw (take_more xs i x lt, flat_map-append f (take i xs) (get_or xs i x ∷ []), ← e) (last (f x) (flat_map f (take i xs)))
  where
    nothing : {A : Type 0} (ys : List A) → ys ++ [] ≡ ys
    nothing [] = refl
    nothing (y ∷ ys) = ap (λ zs. y ∷ zs) (nothing ys)

    last : {A : Type 0} (ys zs : List A) → zs ++ (ys ++ []) ≡ zs ++ ys
    last ys zs = ap (λ us. zs ++ us) (nothing ys)

pub names_more : {X : Type 0} (f : X → List Text) (first : List Text) (xs : List X) (i : ℕ) (x : X) (old new : List Text) → i < length xs → x ≡ get_or xs i x
    → old ≡ fold with_text first (flat_map f (take i xs)) → new ≡ fold with_text old (f x) → new ≡ fold with_text first (flat_map f (take (i + 1) xs))
names_more f first xs i x old new lt at known step =
    step ∙ ap (λ names. fold with_text names (f x)) known ∙ sym (fold-append with_text first (flat_map f (take i xs)) (f x)) ∙ ap (fold with_text first) (sym (one_more f xs i x lt at))

split : {X A : Type 0} (f : X → List A) (xs : List X) (n : ℕ) → flat_map f (take n xs) ++ flat_map f (drop n xs) ≡ flat_map f xs
split f xs n = sym (flat_map-append f (take n xs) (drop n xs)) ∙ ap (flat_map f) (take-append-drop n xs)

pub names_stop : {X : Type 0} (f : X → List Text) (first : List Text) (xs : List X) (i : ℕ) (x : X) (old : List Text) (e : Refusal) → i < length xs → x ≡ get_or xs i x
    → old ≡ fold with_text first (flat_map f (take i xs)) → Refuses (fold with_text old (f x)) e → Refuses (fold with_text first (flat_map f xs)) e
names_stop f first xs i x old e lt at known h =
    let so_far : fold with_text old (f x) ≡ fold with_text first (flat_map f (take (i + 1) xs)) = names_more f first xs i x old (fold with_text old (f x)) lt at known refl in
    let more = refuses_more first (flat_map f (take (i + 1) xs)) (flat_map f (drop (i + 1) xs)) e (subst (λ names. Refuses names e) so_far h) in
    subst (λ ts. Refuses (fold with_text first ts) e) (split f xs (i + 1)) more

-- the same where each piece is one text
texts_one : {X : Type 0} (f : X → Text) (xs : List X) → map f xs ≡ flat_map (λ x. f x ∷ []) xs
texts_one f [] = refl
texts_one f (x ∷ xs) = ap (λ ts. f x ∷ ts) (texts_one f xs)

pub texts_stop : {X : Type 0} (f : X → Text) (first : List Text) (xs : List X) (i : ℕ) (x : X) (old : List Text) (e : Refusal) → i < length xs → x ≡ get_or xs i x
    → old ≡ fold with_text first (map f (take i xs)) → Refuses (with_text old (f x)) e → Refuses (fold with_text first (map f xs)) e
texts_stop f first xs i x old e lt at known h =
    subst (λ ts. Refuses (fold with_text first ts) e) (sym (texts_one f xs))
    (names_stop (λ y. f y ∷ []) first xs i x old e lt at (known ∙ ap (fold with_text first) (texts_one f (take i xs))) h)

-- The texts of the keys of a set

is_one_of-keys : (t : Text) (keys : List (Vec ℕ Global)) → list_any (λ v. bytes_eq t v.items) keys ≡ is_one_of (map (λ v. v.items) keys) t
is_one_of-keys t [] = refl
is_one_of-keys t (v ∷ keys) = rw (bytes_eq_swap v.items t, is_one_of-keys t keys) refl

pub held : (t : Text) (keys : List (Vec ℕ Global)) → list_any (λ v. bytes_eq t v.items) keys ≡ true → map (λ v. v.items) keys ≡ with_text (map (λ v. v.items) keys) t
held t keys h = let e : is_one_of (map (λ v. v.items) keys) t ≡ true = sym (is_one_of-keys t keys) ∙ h in rw e refl

pub put : (t : Text) (keys new : List (Vec ℕ Global)) (own : Vec ℕ Global) → own.items ≡ t → list_any (λ v. bytes_eq t v.items) keys ≡ false
    → new ≡ (if list_any (λ v. bytes_eq own.items v.items) keys then keys else keys ++ own ∷ []) → map (λ v. v.items) new ≡ with_text (map (λ v. v.items) keys) t
put t keys new own same h n =
    let e : is_one_of (map (λ v. v.items) keys) t ≡ false = sym (is_one_of-keys t keys) ∙ h in
    let k : list_any (λ (v : Vec ℕ Global). bytes_eq own.items v.items) keys ≡ false = ap (λ u. list_any (λ (v : Vec ℕ Global). bytes_eq u v.items) keys) same ∙ h in
    let m : new ≡ keys ++ own ∷ [] = n ∙ ap (λ c. if c then keys else keys ++ own ∷ []) k in
    rw (e, m, map-append (λ (v : Vec ℕ Global). v.items) keys (own ∷ [])) (ap (λ u. map (λ (v : Vec ℕ Global). v.items) keys ++ u ∷ []) same)

pub too_many : (t : Text) (keys : List (Vec ℕ Global)) → list_any (λ v. bytes_eq t v.items) keys ≡ false → 4096 ≤ length keys → 4096 < length (with_text (map (λ v. v.items) keys) t)
too_many t keys h l =
    let e : is_one_of (map (λ v. v.items) keys) t ≡ false = sym (is_one_of-keys t keys) ∙ h in
    let k : length (map (λ (v : Vec ℕ Global). v.items) keys) ≡ length keys = length-map keys (λ (v : Vec ℕ Global). v.items) in
    let m : length (map (λ (v : Vec ℕ Global). v.items) keys ++ t ∷ []) ≡ length (map (λ (v : Vec ℕ Global). v.items) keys) + 1 = length-append (map (λ (v : Vec ℕ Global). v.items) keys) (t ∷ []) in
    rw e (omega (arith, k, m, l))

-- The whole numbering

names_seen : (xs : List Seen) → map (λ (x : Sight). x.name) (seen_in xs) ≡ texts_seen xs
names_seen [] = refl
names_seen (x ∷ xs) = ap (λ ts. x.name.items ∷ ts) (names_seen xs)

pub numbered : (d : Declared) (xs : List Seen) (none first declared all : List Text) → none ≡ [] → first ≡ fold with_text none first_names → declared ≡ fold with_text first d.names
    → all ≡ fold with_text declared (texts_seen xs) → all ≡ numbering d (seen_in xs)
numbered d xs none first declared all n f m a =
    let is_first : first ≡ fold with_text [] first_names = f ∙ ap (λ names. fold with_text names first_names) n in
    let is_declared : declared ≡ fold with_text [] (first_names ++ d.names) = m ∙ ap (λ names. fold with_text names d.names) is_first ∙ sym (fold-append with_text [] first_names d.names) in
    a ∙ ap (λ names. fold with_text names (texts_seen xs)) is_declared ∙ ap (fold with_text (fold with_text [] (first_names ++ d.names))) (sym (names_seen xs))
    ∙ sym (fold-append with_text [] (first_names ++ d.names) (map (λ (x : Sight). x.name) (seen_in xs)))

refused : (b : List ℕ) (t : Script) (d : Declared) (xs : List Seen) (e : Refusal) → IsInTextOrder b t (seen_in xs) → Refuses (numbering d (seen_in xs)) e → Numbers b t d (Err e)
refused b t d xs TooMany o h =
    record { names = numbering d (seen_in xs); numbered = record { seen = seen_in xs; in_order = o; each_once = refl }; more = h }
refused b t d xs Memory o h = tt
refused b t d xs TooLong o h = absurd h
refused b t d xs (NulByte a) o h = absurd h
refused b t d xs (Syntax f a) o h = absurd h
refused b t d xs (LeftOut f a) o h = absurd h
refused b t d xs (TooDeep a) o h = absurd h
refused b t d xs (Profile r a) o h = absurd h
refused b t d xs (CertSyntax a) o h = absurd h
refused b t d xs CertShape o h = absurd h

pub refused_seen : (b : List ℕ) (t : Script) (d : Declared) (xs : List Seen) (none first declared : List Text) (e : Refusal) → IsInTextOrder b t (seen_in xs) → none ≡ [] → first ≡ fold with_text none first_names
    → declared ≡ fold with_text first d.names → Refuses (fold with_text declared (texts_seen xs)) e → Numbers b t d (Err e)
refused_seen b t d xs none first declared e o n f m h =
    let all = numbered d xs none first declared (fold with_text declared (texts_seen xs)) n f m refl in
    refused b t d xs e o (subst (λ names. Refuses names e) all h)

pub refused_declared : (b : List ℕ) (t : Script) (d : Declared) (xs : List Seen) (none first : List Text) (e : Refusal) → IsInTextOrder b t (seen_in xs) → none ≡ [] → first ≡ fold with_text none first_names
    → Refuses (fold with_text first d.names) e → Numbers b t d (Err e)
refused_declared b t d xs none first e o n f h = refused_seen b t d xs none first (fold with_text first d.names) e o n f refl (refuses-on (fold with_text first d.names) (texts_seen xs) e h)

pub refused_first : (b : List ℕ) (t : Script) (d : Declared) (xs : List Seen) (none : List Text) (e : Refusal) → IsInTextOrder b t (seen_in xs) → none ≡ []
    → Refuses (fold with_text none first_names) e → Numbers b t d (Err e)
refused_first b t d xs none e o n h = refused_declared b t d xs none (fold with_text none first_names) e o n refl (refuses-on (fold with_text none first_names) d.names e h)
