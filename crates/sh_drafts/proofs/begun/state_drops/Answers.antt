use Rattle.std.proofs.Common.{◌≡◌, ◌≤◌, ◌<◌, Some, List, option_map, length, slice_get, refl, ap, subst, arith}
use Rattle.std.proofs.lemmas.Option.{slice_get_past, slice_get_read}
use Rattle.sh_domain.specs.declared.certificate.FunctionEntry.{FunctionEntry}
use Rattle.sh_drafts.specs.Begun.{drops_stated}
use Rattle.sh_drafts.specs.Idle.{DropsStay}
use Rattle.sh_drafts.specs.Working.{AreBelow, IsCounted, sets_of}
use Rattle.sh_drafts.specs.Writable.{sets_in}
use Rattle.sh_drafts.proofs.BegunLemmas.{drops_more, drops_none, drops_within, sets_same}
use Rattle.sh_drafts.proofs.ReadyLemmas.{numbered}
use Rattle.sh_drafts.proofs.begun.state_drops.Goals as goal

pub add_drops-requires-clause-fine : goal.add_drops-requires-clause-fine
add_drops-requires-clause-fine c = c.requires.working.2.drops c.args.index

pub returns-in_default-clause-begun : goal.returns-in_default-clause-begun
returns-in_default-clause-begun c = λ done b.
    let k = c.args.subject.now.compact.now in
    let past : length k.functions.items ≤ c.args.index = omega (arith, ap length c.deref.ensures.value, c.in_default.ensures.lookup.3) in
    drops_none k done c.args.index c.args.certificate.now (ap (option_map (λ (e : FunctionEntry). sets_of k.rows e.drops)) (slice_get_past k.functions.items c.args.index past)) b

pub returns-clause-begun : goal.returns-clause-begun
returns-clause-begun c = λ done b.
    let s = c.args.subject.now in
    let k = s.compact.now in
    let w = c.requires.working in
    let may = sets_in s.writable.now.vars s.writable.now.functions in
    let sets = sets_of k.rows c.in-Some.entry.now.drops in
    let h = numbered s.script.now s.policy.now s.tree.now s.names.now c.requires.admitted in
    let same : sets_in c.numbers_in-vars.result c.numbers_in-functions.result ≡ sets = sets_same _ sets c.numbers_in-vars.ensures.same c.numbers_in-functions.ensures.same in
    let there : slice_get c.deref.result.now c.args.index ≡ Some c.in-Some.entry.now =
    slice_get_read c.deref.result.now _ c.args.index c.in-Some.entry.now refl c.in-Some.ensures.lookup.3.0 c.in-Some.ensures.lookup.1 in
    let is : drops_stated k c.args.index ≡ Some sets =
    ap (option_map (λ (e : FunctionEntry). sets_of k.rows e.drops)) (subst (λ (xs : List FunctionEntry). slice_get xs c.args.index ≡ Some c.in-Some.entry.now) c.deref.ensures.value there) in
    drops_more k done c.args.index c.args.certificate.now c.add_drops.new.certificate sets may c.in_ok-add_drops.field-0 is
    (subst (λ z. IsCounted c.args.certificate.now c.add_drops.new.certificate c.args.index z c.in_ok-add_drops.field-0) same (c.in_ok-add_drops.ensures.counted w.0 w.1 w.2))
    (λ e. subst (λ z. DropsStay c.args.certificate.now c.args.index z may) same (c.in_ok-add_drops.ensures.idle e))
    (drops_within s.names.now h k c.args.index sets may c.requires.stateable is
    (subst (λ z. AreBelow (length s.names.now) z) same (record { vars = λ j e. subst (λ n. j < n) c.requires.sized (c.numbers_in-vars.ensures.below j e); functions = λ j e. subst (λ n. j < n) c.requires.sized (c.numbers_in-functions.ensures.below j e) })) s.all_writable)
    b
