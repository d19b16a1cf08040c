use Rattle.std.proofs.Common.{◌≡◌, ℕ, ◌+◌, nat_eq, false, None, Option, ap, subst}
use Rattle.indexmap.specs.IndexMap.{get}
use Rattle.sh_domain.specs.declared.certificate.Facts as value
use Rattle.sh_drafts.specs.First.{head_if}
use Rattle.sh_drafts.proofs.FirstLemmas.{heads_on}
use Rattle.sh_drafts.proofs.first.heads_of.Goals as goal

pub loop-command-preserved : goal.loop-command-preserved
loop-command-preserved c =
    let j = c.loop-command.command-index in
    let same : c.loop-command.number ≡ j = c.loop-command.invariant.number in
    let old : ℕ → Option value.Facts = get nat_eq c.loop-command.heads in
    let after : ℕ → Option value.Facts = get nat_eq c.add_head.new.heads in
    let here = subst (λ (n : ℕ). old (n + 1) ≡ None → after (n + 1) ≡ head_if c.is_loop.result) same c.in_ok-add_head.ensures.here in
    let others = subst (λ (n : ℕ). (k : ℕ) → nat_eq (n + 1) k ≡ false → after k ≡ old k) same c.in_ok-add_head.ensures.others in
    record {
      number = ap (λ n. n + 1) same;
      heads = heads_on c.args.commands.now j old after c.command-item.result c.is_loop.result c.loop-command-test.true c.command-item.is c.is_loop.ensures c.loop-command.invariant.heads here others;
    }
