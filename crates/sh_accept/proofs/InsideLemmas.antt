-- What refuses a script is reported inside it.
use Rattle.std.proofs.Common.{◌≡◌, ◌==◌, ℕ, ◌<◌, List, length, nat_lt, true, Err, subst}
use Rattle.std.proofs.lemmas.Bool.{ltb-true}
use Rattle.std.proofs.lemmas.List.Quantifiers.{position-Some}
use Rattle.sh_tree.specs.declared.limits.TheConstants.{MAX_NESTING}
use Rattle.sh_tree.specs.declared.refusal.Refusal.{Refusal}
use Rattle.sh_tree.specs.declared.refusal.Refusal.TheVariants.{TooLong, NulByte, Syntax, LeftOut, TooDeep, TooMany, Memory, Profile, CertSyntax, CertShape}
use Rattle.sh_tree.specs.declared.refusal.Rule.{Rule}
use Rattle.sh_tree.specs.declared.tree.Script.{Script}
use Rattle.sh_tree.specs.standard.language.Reading.{Reads}
use Rattle.sh_tree.specs.standard.program.Trees.{script_of}
use Rattle.sh_table.specs.Admits.{Admits}
use Rattle.sh_reads.specs.Spots.{OfCommand, offset_of}
use Rattle.sh_reads.proofs.OnceLemmas.{read_spots_inside}
use Rattle.sh_domain.specs.Facts.{Declared}
use Rattle.sh_accept.specs.Answers.{Refuses, RefusesText, RefusesLong, NoRefusal}
use Rattle.sh_accept.specs.Inside.{IsInside, RefusalsStandInside}
use Rattle.sh_accept.proofs.StartLemmas.{refused_passes}

-- a command that breaks the profile starts before the end
profile_inside : (b : List ℕ) (t : Script) (r : Rule) (at : ℕ) → Reads b t → Admits (script_of b t) (Err (Profile r at)) → at < length b
unfolding offset_of
profile_inside b t r at reads h =
    let passes : nat_lt (offset_of (OfCommand h.0.at)) (length b) ≡ true =
    refused_passes (λ s. nat_lt (offset_of s) (length b)) (script_of b t) h.0 h.1 (read_spots_inside b t reads) in
    subst (λ n. n < length b) h.3 (ltb-true h.0.at (length b) passes)

inside : (b : List ℕ) (d : Declared) (P : Refusal → Type 0) (r : Refusal) → Refuses b d P r → IsInside b r
inside b d P TooLong h = tt
inside b d P (NulByte at) h = (position-Some (λ c. c == 0) b at 0 h.refused.1).0
inside b d P (Syntax f at) h = h.refused.1
inside b d P (LeftOut f at) h = h.refused.1
inside b d P (TooDeep at) h = h.refused.1
inside b d P TooMany h = tt
inside b d P Memory h = tt
inside b d P (Profile r at) h = profile_inside b h.0 r at (MAX_NESTING, h.1.1.0, h.1.1.1) h.2
inside b d P (CertSyntax n) h = tt
inside b d P CertShape h = tt

pub refusals_stand_inside : RefusalsStandInside
refusals_stand_inside = record {
  checked = λ b d text r h. inside b d (RefusesText b d text) r h;
  linted = λ b d r h. inside b d NoRefusal r h;
  certified = λ full b d r h. inside b d (RefusesLong full b d) r h;
}
