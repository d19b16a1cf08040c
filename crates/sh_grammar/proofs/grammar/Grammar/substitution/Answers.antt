use Rattle.std.proofs.Common.{◌≡◌, ◌<◌, None, false, [], length, inl, inr, refl, sym, ap, subst, ◌∙◌}
use Rattle.std.proofs.lemmas.Result.{err_from_is_err_and}
use Rattle.sh_bodies.specs.Fill.{fill}
use Rattle.sh_tree.specs.declared.refusal.Fault.TheVariants as fault
use Rattle.sh_tree.specs.standard.language.Commands.{lead_at}
use Rattle.sh_tree.specs.standard.language.Substitutions.{closes}
use Rattle.sh_grammar.specs.declared.state.State.{State}
use Rattle.sh_grammar.specs.Faults.{TellsAt, ended, stage_at}
use Rattle.sh_grammar.specs.Readers.{One, To}
use Rattle.sh_grammar.specs.States.{here, waiting}
use Rattle.sh_grammar.specs.Substitutions.{ClosedFrom}
use Rattle.sh_grammar.proofs.StateLemmas.{ended_stands}
use Rattle.sh_grammar.proofs.SubstitutionLemmas.{closed_read}
use Rattle.sh_grammar.proofs.grammar.Grammar.substitution.Goals as goal

pub returns-clause-reads : goal.returns-clause-reads
returns-clause-reads g c =
    let b = c.args.script.now in
    let s = c.args.from in
    let found = c.in_ok-commands in
    let end = found.behind in
    let style = c.args.style in
    let close = ap (closes style b) (sym c.at.ensures) ∙ sym c.closes_at.ensures.value ∙ c.if-not-closes_at.false in
    let none = c.in_default.ensures ∙ ap (λ (v : State). waiting None v.pending) c.get-2.ensures in
    let list : c.in_ok-list.list ≡ fill end.bodies found.commands = c.in_ok-list.ensures ∙ ap (λ ds. fill ds found.commands) c.ended-bodies.ensures.bodies in
    let one = closed_read style b s c.requires.level end found.commands found.ensures.reads.one close none in
    subst (λ v. To b (ClosedFrom style b s) s.at c.in_ok-list.list v) (sym c.ended-bodies.ensures.level) (record {
      one = subst (λ t. One (ClosedFrom style b s) (here (record end { closed = false; bodies = [] })) t) (sym list) one;
      from = found.ensures.reads.from;
      stands = ended_stands b end found.ensures.reads.stands;
    })

pub returns-in_err-commands-clause-told : goal.returns-in_err-commands-clause-told
returns-in_err-commands-clause-told g c =
    let p = err_from_is_err_and c.from_residual.result c.from_residual.ensures.1 in
    rw (p.1, p.2) (inl c.in_err-commands.ensures.reads)

pub returns-then-not-closes_at-clause-told : goal.returns-then-not-closes_at-clause-told
returns-then-not-closes_at-clause-told g c =
    let b = c.args.script.now in
    let style = c.args.style in
    let found = c.in_ok-commands in
    let same = c.get.ensures in
    let e = c.unclosed_at.result in
    inr (record {
      end = found.behind;
      commands = found.commands;
      one = found.ensures.reads.one;
      stands = found.ensures.reads.stands;
      around = found.ensures.around;
      tells = inl (record {
        open_here = ap (closes style b) (sym c.at.ensures) ∙ sym c.closes_at.ensures.value ∙ c.if-not-closes_at.true;
        at_end = λ is. subst (λ (v : State). e ≡ ended b v fault.OpenSubstitution c.args.start) same (c.unclosed_at.ensures.open (ap (λ (v : State). v.at) same ∙ is));
        inside = λ before. subst (λ (v : State). TellsAt b (lead_at b (stage_at v.fresh) v.at) v e) same (c.unclosed_at.ensures.which (subst (λ i. i < length b) (sym (ap (λ (v : State). v.at) same)) before));
      });
    })

pub returns-in-Some-clause-told : goal.returns-in-Some-clause-told
returns-in-Some-clause-told g c =
    let b = c.args.script.now in
    let style = c.args.style in
    let found = c.in_ok-commands in
    inr (record {
      end = found.behind;
      commands = found.commands;
      one = found.ensures.reads.one;
      stands = found.ensures.reads.stands;
      around = found.ensures.around;
      tells = inr (record {
        closed_here = ap (closes style b) (sym c.at.ensures) ∙ sym c.closes_at.ensures.value ∙ c.if-not-closes_at.false;
        at = c.in-Some.at;
        waits = c.in-Some.ensures ∙ ap (λ (v : State). waiting None v.pending) c.get-2.ensures;
        across = refl;
      });
    })

pub returns-in_err-list-clause-told : goal.returns-in_err-list-clause-told
returns-in_err-list-clause-told g c =
    let p = err_from_is_err_and c.from_residual-in_err-list.result c.from_residual-in_err-list.ensures.1 in
    rw (p.1, p.2) (inl tt)
