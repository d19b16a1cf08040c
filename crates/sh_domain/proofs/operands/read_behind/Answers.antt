use Rattle.std.proofs.Common.{◌≡◌, ◌∙◌, Bor, List, true, false, ap, sym}
use Rattle.std.specs.Option.{option_map}
use Rattle.sh_runs.specs.standard.runs.Operands.{is_dashed, ends_options}
use Rattle.sh_domain.specs.declared.sights.Seen.{Seen}
use Rattle.sh_domain.specs.Sights.{read_behind}
use Rattle.sh_runs.specs.ReadOptions.{option_takes}
use Rattle.sh_domain.specs.SightWalks.{seen_in}
use Rattle.sh_domain.proofs.SightLemmas.{read_on, read_other}
use Rattle.sh_domain.proofs.operands.read_behind.Goals as goal

pub returns-in_err-takes : goal.returns-in_err-takes
returns-in_err-takes c =
    let x = c.first-item.result in
    let ends : ends_options x.name.items ≡ false = ap ends_options (sym c.deref.ensures.value) ∙ sym c.ends_options-ends.ensures ∙ c.if-ends.false in
    let dashed : is_dashed x.name.items ≡ true = ap is_dashed (sym c.deref-else-takes.ensures.value) ∙ sym c.is_dashed-dashed.ensures ∙ c.if-dashed.true in
    let other = ap option_takes (sym c.deref-then-dashed.ensures.value) ∙ sym c.option_takes.ensures ∙ c.in_err-takes.was in
    ap (option_map (λ (left : Bor (List Seen)). seen_in left.now)) c.from_residual.ensures
    ∙ sym (read_other c.loop-operands.operands.now x c.in-len1-up.len_at_least c.first-item.is ends dashed other)
    ∙ ap (λ t. read_behind t (seen_in c.loop-operands.operands.now)) (sym c.if-takes.false) ∙ c.loop-operands.invariant

pub loop-operands-preserved : goal.loop-operands-preserved
loop-operands-preserved c =
    let x = c.first-item.result in
    let ends : ends_options x.name.items ≡ false = ap ends_options (sym c.deref.ensures.value) ∙ sym c.ends_options-ends.ensures ∙ c.if-ends.false in
    let dashed : is_dashed x.name.items ≡ true = ap is_dashed (sym c.deref-else-takes.ensures.value) ∙ sym c.is_dashed-dashed.ensures ∙ c.if-dashed.true in
    let takes = ap option_takes (sym c.deref-then-dashed.ensures.value) ∙ sym c.option_takes.ensures ∙ c.in_ok-takes.was in
    read_on c.loop-operands.operands.now x c.in_ok-takes.takes c.in-len1-up.len_at_least c.first-item.is ends dashed takes
    ∙ ap (λ t. read_behind t (seen_in c.loop-operands.operands.now)) (sym c.if-takes.false) ∙ c.loop-operands.invariant
