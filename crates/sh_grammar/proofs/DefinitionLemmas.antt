-- Function definitions, by their parts.
use Rattle.std.proofs.Common.{◌≡◌, ℕ, ◌+◌, true, false, List, [], refl, sym, ap, subst, ◌∙◌, arith}
use Rattle.std.proofs.lemmas.Bool.{true≢false}
use Rattle.sh_tree.specs.declared.token.command.Stage.TheVariants.{First, Named}
use Rattle.sh_tree.specs.declared.token.command.Lead.TheVariants as lead
use Rattle.sh_tree.specs.declared.token.command.Operator.TheVariants as op
use Rattle.sh_tree.specs.declared.tree.Kind.TheVariants as kind
use Rattle.sh_tree.specs.declared.tree.Command.{Command}
use Rattle.sh_tree.specs.declared.refusal.Refusal.{Refusal}
use Rattle.sh_tree.specs.standard.language.Commands.{lead_at, begins_simple, begins_compound, is_redirection, name_end}
use Rattle.sh_tree.specs.standard.language.Reading as r
use Rattle.sh_tree.specs.standard.language.Reading.{ReadsBreaks, ReadsCommand, lead_here, lead_of, skip, behind_name}
use Rattle.sh_tree.specs.standard.language.States as states
use Rattle.sh_tree.specs.standard.language.States.{Document, begun}
use Rattle.sh_tree.specs.standard.language.Trees as tree
use Rattle.sh_tree.specs.standard.language.Trees.{span}
use Rattle.sh_tree.proofs.Inversions.{apart, compound_begins}
use Rattle.sh_tree.proofs.Counts.{command_count}
use Rattle.sh_grammar.specs.Breaks.{BreaksTo, BreaksFrom}
use Rattle.sh_grammar.specs.declared.state.State.{State}
use Rattle.sh_grammar.specs.States.{here}
use Rattle.sh_grammar.specs.Definitions.{named, over, HasParentheses}
use Rattle.sh_grammar.specs.Readers.{One, Nothing, Refused, CommandFrom, unread}
use Rattle.sh_grammar.proofs.ReaderLemmas.{refused_by}

-- a definition of the command d
abbrev defined : List ℕ → states.State → Command → Command
defined b s d = tree.command (s.spot.count + 1) s.spot.at (kind.Define (span s.spot.at (name_end b s.spot.at)) d) []

abbrev DefinitionOf : ℕ → List ℕ → (ℕ → Document) → states.State → states.State → Command → Type 0
DefinitionOf limit b body s v c =
    (u : states.State) × (d : Command) × (c ≡ defined b s d) × (lead_of b (Named false) (behind_name b s) ≡ lead.Operator op.LeftParenthesis)
    × (lead_of b (Named false) (skip b 1 (behind_name b s)) ≡ lead.Operator op.RightParenthesis)
    × ReadsBreaks limit b (skip b 1 (skip b 1 (behind_name b (begun s)))) u × (begins_compound (lead_here b u) ≡ true) × ReadsCommand limit b body u v d

definition_of : {limit : ℕ} {b : List ℕ} {body : ℕ → Document} {s v : states.State} {c : Command} → lead_here b s ≡ lead.Definition → ReadsCommand limit b body s v c
    → DefinitionOf limit b body s v c
unfolding begins_simple begins_compound is_redirection
definition_of is (r.simple_command h e) = absurd (apart begins_simple is h refl)
definition_of is (r.compound_command {l = l} h k q) = absurd (true≢false (sym (compound_begins k) ∙ ap begins_compound (sym h ∙ is)))
definition_of is (r.definition {u = u} {c = d} h o p k i l) = (u, d, refl, o, p, k, i, l)

module _ (b : List ℕ) (s : State) (is : lead_at b First s.at ≡ lead.Definition) where
  pub definition_bare : (HasParentheses b (named b s) → ⊥) → Nothing (CommandFrom b s)
  definition_bare none limit v c l = let f = definition_of {s = here s} is l in none (record { begins = f.3; ends = f.4 })

  pub definition_stopped : (e : Refusal) → Refused b (BreaksFrom b (over b (over b (named b s)))) e → Refused b (CommandFrom b s) e
  definition_stopped e none = refused_by b (BreaksFrom b (over b (over b (named b s)))) (CommandFrom b s) e
      (λ limit v c l. let f = definition_of {s = here s} is l in (f.0, tt, f.5, command_count f.7)) none

  module _ (u : State) (breaks : BreaksTo b (over b (over b (named b s))) u) where
    pub definition_empty : begins_compound (lead_at b First u.at) ≡ false → Nothing (CommandFrom b s)
    definition_empty none limit v c l =
        let f = definition_of {s = here s} is l in
        let same : f.0 ≡ here u = breaks.forth limit f.0 f.5 in
        true≢false (sym f.6 ∙ ap (λ w. begins_compound (lead_here b w)) same ∙ none)

    pub definition_refused : (e : Refusal) → Refused b (CommandFrom b u) e → Refused b (CommandFrom b s) e
    definition_refused e h = refused_by b (CommandFrom b u) (CommandFrom b s) e
        (λ limit v c l.
        let f = definition_of {s = here s} is l in
        (v, f.1, subst (λ w. ReadsCommand limit b unread w v f.1) (breaks.forth limit f.0 f.5) f.7, omega arith)) h

    pub definition_read : HasParentheses b (named b s) → begins_compound (lead_at b First u.at) ≡ true → (d : Command) (v : State) → One (CommandFrom b u) (here v) d
        → One (CommandFrom b s) (here v) (tree.command (s.count + 1) s.at (kind.Define (span s.at (name_end b s.at)) d) [])
    definition_read two begins d v one = record {
      reads = r.definition {s = here s} is two.begins two.ends (breaks.back) begins one.reads;
      only = λ limit w c l.
          let f = definition_of {s = here s} is l in
          let o = one.only limit w f.1 (subst (λ k. ReadsCommand limit b unread k w f.1) (breaks.forth limit f.0 f.5) f.7) in
          (o.0, f.2 ∙ ap (λ x. defined b (here s) x) o.1);
    }
