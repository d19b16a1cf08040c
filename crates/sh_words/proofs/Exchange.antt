-- What is left of a word, said in another way.
use Rattle.std.proofs.Common.{◌≡◌, ℕ, List, ◌∷◌, Option, Some, None, Result, Ok, Err, sym, ap, subst}
use Rattle.sh_tree.specs.declared.tree.Part.{Part}
use Rattle.sh_tree.specs.declared.refusal.Refusal.{Refusal}
use Rattle.sh_tree.specs.declared.refusal.Refusal.TheVariants.{TooLong, NulByte, Syntax, LeftOut, TooDeep, TooMany, Memory, Profile, CertSyntax, CertShape}
use Rattle.sh_tree.specs.standard.language.States.{Spot}
use Rattle.sh_words.specs.declared.frames.Frame.{Frame}
use Rattle.sh_words.specs.declared.frames.Focus.{Focus}
use Rattle.sh_words.specs.declared.builder.WordBuilder.{WordBuilder}
use Rattle.sh_words.specs.declared.builder.Next.{Next}
use Rattle.sh_words.specs.declared.builder.Next.TheVariants.{Done, Inner}
use Rattle.sh_words.specs.Rest.{Around, Leftover, Left}
use Rattle.sh_words.specs.Clauses.{Never, Refuses, Steps}
use Rattle.sh_words.specs.Faults.{IsFault}
use Rattle.sh_words.specs.States.{focused, framed}

-- what is left in the one way is left in the other, and back within the limit
pub record Alike (old other : Leftover) : Type 0 where
  pub forth : (limit : ℕ) (g : Around) (u : Spot) (ps : List Part) → old limit g u ps → other limit g u ps
  pub back : (g : Around) (u : Spot) (ps : List Part) → other 64 g u ps → old 64 g u ps

refuses_alike : (b : List ℕ) (old other : Leftover) (e : Refusal) → Alike old other → Refuses b other e → Refuses b old e
refuses_alike b old other Memory a r = tt
refuses_alike b old other (Syntax f at) a r = (r.0, λ limit g u ps l. r.1 limit g u ps (a.forth limit g u ps l))
refuses_alike b old other (LeftOut f at) a r = (r.0, λ limit g u ps l. r.1 limit g u ps (a.forth limit g u ps l))
refuses_alike b old other (TooDeep at) a r = (r.0, λ g u ps l. r.1 g u ps (a.forth 64 g u ps l))
refuses_alike b old other TooLong a r = r
refuses_alike b old other (NulByte at) a r = r
refuses_alike b old other TooMany a r = r
refuses_alike b old other (Profile f at) a r = r
refuses_alike b old other (CertSyntax n) a r = r
refuses_alike b old other CertShape a r = r

-- a step from the other is one from the first
pub steps_alike : (b : List ℕ) (old other : Leftover) (new : WordBuilder) (res : Result (Option Next) Refusal) → Alike old other → Steps b other new res → Steps b old new res
steps_alike b old other new (Ok None) a s = record {
  forth = λ limit g u ps l. s.forth limit g u ps (a.forth limit g u ps l);
  back = λ g u ps l. a.back g u ps (s.back g u ps l);
}
steps_alike b old other new (Ok (Some (Done w))) a s = (
  s.0,
  s.1,
  record {
    forth = λ limit g u ps l. s.2.forth limit g u ps (a.forth limit g u ps l);
    back = λ g. a.back g _ _ (s.2.back g);
  },
)
steps_alike b old other new (Ok (Some (Inner at depth style quoted))) a s = (
  s.0,
  s.1,
  record {
    forth = λ limit g u ps l. s.2.forth limit g u ps (a.forth limit g u ps l);
    back = λ g u ps v t read close keeps l. a.back g u ps (s.2.back g u ps v t read close keeps l);
  },
)
steps_alike b old other new (Err e) a s = refuses_alike b old other e a s

-- a step from a builder is one from an equal one
pub steps_equal : (b : List ℕ) (old other new : WordBuilder) (res : Result (Option Next) Refusal) → other ≡ old → Steps b (Left b other) new res → Steps b (Left b old) new res
steps_equal b old other new res e s = subst (λ v. Steps b (Left b v) new res) e s

-- the focus is in its place where it was taken out
pub unfocused : (w : WordBuilder) (x : Focus) → w.focus ≡ x → focused w x ≡ w
unfocused w x e = ap (λ v. focused w v) (sym e)

-- and so does the innermost frame
pub reframed : (w : WordBuilder) (f : Frame) (fs : List Frame) (x : Focus) → w.frames ≡ f ∷ fs → framed (record w { frames = fs }) f x ≡ focused w x
reframed w f fs x e = ap (λ v. record w { frames = v; focus = x }) (sym e)

-- a fault at its place refuses if no word is left
pub fault_refuses : (b : List ℕ) (old : Leftover) (e : Refusal) → IsFault b e → Never old → Refuses b old e
fault_refuses b old (Syntax f at) is none = (is, none)
fault_refuses b old (LeftOut f at) is none = (is, none)
fault_refuses b old Memory is none = tt
fault_refuses b old (TooDeep at) is none = absurd is
fault_refuses b old TooLong is none = is
fault_refuses b old (NulByte at) is none = is
fault_refuses b old TooMany is none = is
fault_refuses b old (Profile f at) is none = is
fault_refuses b old (CertSyntax n) is none = is
fault_refuses b old CertShape is none = is
