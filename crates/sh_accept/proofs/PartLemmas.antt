-- What the parts of a check answer is an answer of the check.
use Rattle.std.proofs.Common.{◌≡◌, ℕ, inl, inr, List, [], length, None, Ok, Err}
use Rattle.sh_tree.specs.Answers.{Parses}
use Rattle.sh_tree.specs.declared.refusal.Refusal.{Refusal}
use Rattle.sh_tree.specs.declared.refusal.Refusal.TheVariants.{TooLong, NulByte, Syntax, LeftOut, TooDeep, TooMany, Memory, Profile, CertSyntax, CertShape}
use Rattle.sh_tree.specs.declared.tree.Script.{Script}
use Rattle.sh_tree.specs.standard.program.Syntax.{Text}
use Rattle.sh_tree.specs.standard.program.Trees.{script_of}
use Rattle.sh_table.specs.Admits.{Admits}
use Rattle.sh_runs.specs.Profile.{first_refused}
use Rattle.sh_domain.specs.CompactReading.{ReadsGiven, given_claims}
use Rattle.sh_domain.specs.Facts.{Declared}
use Rattle.sh_domain.specs.Names.{Numbers}
use Rattle.sh_domain.specs.Sheets.{Sheet}
use Rattle.sh_domain.specs.declared.compact.Given.{Given}
use Rattle.sh_domain.proofs.EachLemmas.{none_both}
use Rattle.sh_answers.specs.declared.verdict.Verdict.TheVariants.{Pass}
use Rattle.sh_domain.specs.Admitted.{IsAdmitted, KeepsRules, functions_in}
use Rattle.sh_accept.specs.Accepted.{Gives}
use Rattle.sh_accept.specs.Answers.{Checks, IsCertified, IsUnread, places}
use Rattle.sh_accept.specs.Parts.{PartsAlwaysAnswer}
use Rattle.sh_accept.proofs.FilledLemmas.{claims_fit}

module _ (b : List ℕ) (d : Declared) (text : Text) where
  unread : (e : Refusal) → IsUnread b e → Checks b d text (Err e)
  unread TooLong h = h
  unread (NulByte at) h = h
  unread (Syntax f at) h = h
  unread (LeftOut f at) h = h
  unread (TooDeep at) h = h
  unread TooMany h = inl h
  unread Memory h = h.refused
  unread (Profile r at) h = absurd h.refused
  unread (CertSyntax n) h = absurd h.refused
  unread CertShape h = absurd h.refused

  refused : (t : Script) (e : Refusal) → Parses b (Ok t) → Admits (script_of b t) (Err e) → Checks b d text (Err e)
  refused t TooLong p h = absurd h
  refused t (NulByte at) p h = absurd h
  refused t (Syntax f at) p h = absurd h
  refused t (LeftOut f at) p h = absurd h
  refused t (TooDeep at) p h = absurd h
  refused t TooMany p h = absurd h
  refused t Memory p h = p.0
  refused t (Profile r at) p h = (t, p, h)
  refused t (CertSyntax n) p h = absurd h
  refused t CertShape p h = absurd h

  unnumbered : (t : Script) (e : Refusal) → Parses b (Ok t) → first_refused (script_of b t) ≡ None → Numbers b t d (Err e) → Checks b d text (Err e)
  unnumbered t TooLong p a h = absurd h
  unnumbered t (NulByte at) p a h = absurd h
  unnumbered t (Syntax f at) p a h = absurd h
  unnumbered t (LeftOut f at) p a h = absurd h
  unnumbered t (TooDeep at) p a h = absurd h
  unnumbered t TooMany p a h = inr (t, p, a, h)
  unnumbered t Memory p a h = p.0
  unnumbered t (Profile r at) p a h = absurd h
  unnumbered t (CertSyntax n) p a h = absurd h
  unnumbered t CertShape p a h = absurd h

  uncertified : (t : Script) (names : List Text) (e : Refusal) → IsAdmitted b d t names → ReadsGiven text t (length (functions_in b t)) names (Err e) → Checks b d text (Err e)
  uncertified t names TooLong a h = absurd h
  uncertified t names (NulByte at) a h = absurd h
  uncertified t names (Syntax f at) a h = absurd h
  uncertified t names (LeftOut f at) a h = absurd h
  uncertified t names (TooDeep at) a h = absurd h
  uncertified t names TooMany a h = absurd h
  uncertified t names Memory a h = a.reading.0
  uncertified t names (Profile r at) a h = absurd h
  uncertified t names (CertSyntax n) a h = (t, names, a, h)
  uncertified t names CertShape a h = (t, names, a, h)

  certified : (t : Script) (names : List Text) (g : Given) (c : Sheet) → IsAdmitted b d t names → ReadsGiven text t (length (functions_in b t)) names (Ok g) → Gives b t names (given_claims names g) c
      → IsCertified b d text t c
  certified t names g c a h is = record {
    names = names;
    admitted = a;
    claims = record { given = given_claims names g; reads = h.2.claims; fit = record { loops = h.0; are_loops = h.1; fit = h.2.fit }; gives = is };
  }

  passes : (t : Script) (c : Sheet) → IsCertified b d text t c → KeepsRules b d t c → places b d t c ≡ [] → Checks b d text (Ok Pass)
  passes t c h k e =
      let both = none_both _ _ e in
      record {
        certificate = c;
        claims = h.claims;
        accepted = record { tree = t; names = h.names; admitted = h.admitted; fit = claims_fit b t h.names text c h.claims; rules = k; met = both.0; quoted = both.1 };
      }

pub parts_always_answer : PartsAlwaysAnswer
parts_always_answer b d text = record {
  unread = unread b d text;
  refused = refused b d text;
  unnumbered = unnumbered b d text;
  uncertified = uncertified b d text;
  certified = certified b d text;
  passes = passes b d text;
  forged = λ t c f h e. record { tree = t; certificate = c; certified = h; told = e };
  fails = λ t c r h k found. record { tree = t; certificate = c; certified = h; rules = k; found = found };
}
