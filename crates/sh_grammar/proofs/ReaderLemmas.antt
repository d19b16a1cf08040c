-- Refusals of parts, and lists of which some were read.
use Rattle.std.proofs.Common.{◌≡◌, ℕ, ◌≤◌, List, [], ◌∷◌, ◌++◌, length, refl, sym, ap, subst, ◌∙◌, le_trans, lt_of_lt_of_le, arith}
use Rattle.std.proofs.lemmas.List.{append-nil, append_assoc}
use Rattle.sh_tree.specs.declared.refusal.Refusal.{Refusal}
use Rattle.sh_tree.specs.declared.refusal.Refusal.TheVariants.{TooLong, NulByte, Syntax, LeftOut, TooDeep, TooMany, Memory, Profile, CertSyntax, CertShape}
use Rattle.sh_tree.specs.standard.language.States as states
use Rattle.sh_grammar.specs.Faults.{IsFault}
use Rattle.sh_grammar.specs.Readers.{Reading, One, Nothing, Refused, Steps}

-- A refusal of one thing is one of another, if each reading of the other reads the first, which
-- ends after no more commands.
pub refused_by : {A B : Type 0} (b : List ℕ) (R : Reading A) (Q : Reading B) (e : Refusal)
    → ((limit : ℕ) (k : states.State) (y : B) → Q limit k y → (j : states.State) × (x : A) × R limit j x × (j.spot.count ≤ k.spot.count)) → Refused b R e → Refused b Q e
refused_by b R Q (Syntax f at) inside h = (h.0, λ limit k y l. let t = inside limit k y l in h.1 limit t.0 t.1 t.2)
refused_by b R Q (LeftOut f at) inside h = (h.0, λ limit k y l. let t = inside limit k y l in h.1 limit t.0 t.1 t.2)
refused_by b R Q (TooDeep at) inside h = (h.0, λ k y l. let t = inside 64 k y l in h.1 t.0 t.1 t.2)
refused_by b R Q TooMany inside h = λ limit k y l. let t = inside limit k y l in let more = h limit t.0 t.1 t.2 in let no_more = t.3 in omega arith
refused_by b R Q Memory inside h = tt
refused_by b R Q TooLong inside h = h
refused_by b R Q (NulByte at) inside h = h
refused_by b R Q (Profile f at) inside h = h
refused_by b R Q (CertSyntax n) inside h = h
refused_by b R Q CertShape inside h = h

-- a place in a text is one in a longer text
pub refused_in : {A : Type 0} (R : Reading A) (t b : List ℕ) (e : Refusal) → length t ≤ length b → Refused t R e → Refused b R e
refused_in R t b (Syntax f at) within h = (le_trans h.0 within, h.1)
refused_in R t b (LeftOut f at) within h = (lt_of_lt_of_le h.0 within, h.1)
refused_in R t b (TooDeep at) within h = (le_trans h.0 within, h.1)
refused_in R t b _ within h = h

-- a fault where nothing is read
pub refused_none : {A : Type 0} (b : List ℕ) (R : Reading A) (e : Refusal) → IsFault b e → Nothing R → Refused b R e
refused_none b R (Syntax f at) is none = (is, none)
refused_none b R (LeftOut f at) is none = (is, none)
refused_none b R _ is none = absurd is

module _ {S A : Type 0} (R : S → Reading (List A)) where
  -- the elements from s on are those that were found, and then those from `next` on
  pub record Behind (s : S) (found : List A) (next : S) : Type 0 where
    pub forth : (limit : ℕ) (k : states.State) (xs : List A) → R s limit k xs → (ys : List A) × (xs ≡ found ++ ys) × R next limit k ys
    pub back : (k : states.State) (ys : List A) → R next 64 k ys → R s 64 k (found ++ ys)

  pub nothing_yet : (s : S) → Behind s [] s
  nothing_yet s = record { forth = λ limit k xs l. (xs, refl, l); back = λ k ys l. l }

  pub one_more : (s next after : S) (found : List A) (x : A) → Behind s found next → Steps R next x after → Behind s (found ++ x ∷ []) after
  one_more s next after found x behind steps = record {
    forth = λ limit k xs l.
        let t = behind.forth limit k xs l in
        let u = steps.forth limit k t.0 t.2 in
        (u.0, t.1 ∙ ap (λ v. found ++ v) u.1 ∙ sym (append_assoc found (x ∷ []) u.0), u.2);
    back = λ k ys l. subst (λ v. R s 64 k v) (sym (append_assoc found (x ∷ []) ys)) (behind.back k (x ∷ ys) (steps.back k ys l));
  }

  -- what was found, and the last ones
  pub found_with : (s next : S) (found ys : List A) (k : states.State) → Behind s found next → One (R next) k ys → One (R s) k (found ++ ys)
  found_with s next found ys k behind rest = record {
    reads = behind.back k ys rest.reads;
    only = λ limit j xs l.
        let t = behind.forth limit j xs l in
        let u = rest.only limit j t.0 t.2 in
        (u.0, t.1 ∙ ap (λ v. found ++ v) u.1);
  }

  pub all_found : (s next : S) (found : List A) (k : states.State) → Behind s found next → One (R next) k [] → One (R s) k found
  all_found s next found k behind rest = subst (λ v. One (R s) k v) (append-nil found) (found_with s next found [] k behind rest)

  -- a refusal of what is left is one of the whole
  pub refused_behind : (b : List ℕ) (s next : S) (found : List A) (e : Refusal) → Behind s found next → Refused b (R next) e → Refused b (R s) e
  refused_behind b s next found e behind h = refused_by b (R next) (R s) e (λ limit k xs l. let t = behind.forth limit k xs l in (k, t.0, t.2, omega arith)) h
