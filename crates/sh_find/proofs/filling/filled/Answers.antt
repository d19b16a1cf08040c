use Rattle.std.proofs.Common.{rules, ◌≡◌, ℕ, true, length, refl, sym, ap, ◌∙◌, subst, arith}
use Rattle.std.specs.List.{list_all}
use Rattle.std.proofs.lemmas.List.{length-map}
use Rattle.sh_tree.specs.declared.limits.TheConstants.{MAX_NESTING}
use Rattle.sh_tree.specs.standard.language.Bytes.{is_name}
use Rattle.sh_runs.specs.Calls.{Table}
use Rattle.sh_domain.specs.Reading.{AreLoops, loops_of}
use Rattle.sh_domain.proofs.VariableLemmas.{read_names_variables}
use Rattle.sh_domain.specs.Admitted.{functions_in}
use Rattle.sh_domain.specs.declared.certificate.Certificate.{Certificate}
use Rattle.sh_rows.specs.declared.bits.BitRow.{BitRow}
use Rattle.sh_drafts.specs.Ready.{IsReady, IsSettled}
use Rattle.sh_drafts.specs.Working.{IsWorking}
use Rattle.sh_find.proofs.FillLemmas.{begun_over, counts, has_stated, is_filled, stateable}
use Rattle.sh_sweeps.proofs.LoopsLemmas.{few_listed}
use Rattle.sh_drafts.proofs.ReadyLemmas.{numbered}
use Rattle.sh_find.proofs.filling.filled.Goals as goal

pub overflow_cast-commands : goal.overflow_cast-commands
overflow_cast-commands c =
    let s = c.args.subject.now in
    let few = few_listed s.script.now s.policy.now s.tree.now s.names.now c.requires.admitted s.commands.now c.requires.commands in
    omega (arith, few)

pub begun-requires-clause-stateable : goal.begun-requires-clause-stateable
begun-requires-clause-stateable c =
    let s = c.args.subject.now in
    stateable s.names.now (numbered s.script.now s.policy.now s.tree.now s.names.now c.requires.admitted) s.compact.now c.requires.spelled

pub begun-requires-clause-has : goal.begun-requires-clause-has
begun-requires-clause-has c = λ first w.
    let s = c.args.subject.now in
    let are : AreLoops s.tree.now (loops_of s.commands.now) = record { commands = s.commands.now; all = c.requires.commands; ordered = c.requires.ordered; each = refl } in
    let all = counts s.names.now (loops_of s.commands.now) (length (functions_in s.script.now s.tree.now)) s.compact.now (c.requires.fits (loops_of s.commands.now) are) in
    let same : length c.functions.result.now ≡ length (functions_in s.script.now s.tree.now) =
    sym (length-map c.functions.result.now _) ∙ ap length c.functions.ensures.names ∙ ap (λ (x : Table). length x.functions.names) s.listed in
    has_stated s.names.now (loops_of s.commands.now) _ s.compact.now first w all.heads (all.functions ∙ sym same)

pub begun-requires-clause-counted : goal.begun-requires-clause-counted
begun-requires-clause-counted c =
    let s = c.args.subject.now in
    let are : AreLoops s.tree.now (loops_of s.commands.now) = record { commands = s.commands.now; all = c.requires.commands; ordered = c.requires.ordered; each = refl } in
    let all = counts s.names.now (loops_of s.commands.now) (length (functions_in s.script.now s.tree.now)) s.compact.now (c.requires.fits (loops_of s.commands.now) are) in
    all.commands ∙ length-map s.commands.now _

pub begun-requires-clause-functions : goal.begun-requires-clause-functions
begun-requires-clause-functions c =
    let s = c.args.subject.now in
    let are : AreLoops s.tree.now (loops_of s.commands.now) = record { commands = s.commands.now; all = c.requires.commands; ordered = c.requires.ordered; each = refl } in
    let all = counts s.names.now (loops_of s.commands.now) (length (functions_in s.script.now s.tree.now)) s.compact.now (c.requires.fits (loops_of s.commands.now) are) in
    let same : length c.functions.result.now ≡ length (functions_in s.script.now s.tree.now) =
    sym (length-map c.functions.result.now _) ∙ ap length c.functions.ensures.names ∙ ap (λ (x : Table). length x.functions.names) s.listed in
    all.functions ∙ sym same

pub settle-requires-clause-ready : goal.settle-requires-clause-ready
settle-requires-clause-ready c =
    let s = c.args.subject.now in
    let made = c.in_ok-draft.ensures in
    subst (λ (x : Certificate). IsReady s x c.in_ok-draft.draft.probe.count) (sym made.certificate) (subst (λ (p : BitRow). IsReady s c.in_ok-certificate.certificate p.count) (sym made.probe) record {
      admitted = c.requires.admitted;
      loops = loops_of s.commands.now;
      functions = _;
      working = c.in_ok-certificate.ensures.working;
      over = begun_over s c.requires.admitted c.requires.stated (loops_of s.commands.now) _ c.in_ok-certificate.certificate c.in_ok-certificate.ensures.working c.in_ok-certificate.ensures.begun;
      probe = c.in_ok-certificate.ensures.probed;
      commands = c.requires.commands;
    })

pub settle-requires-clause-working : goal.settle-requires-clause-working
settle-requires-clause-working c =
    let s = c.args.subject.now in
    let m : ℕ = length c.functions.result.now in
    let same : m ≡ length (functions_in s.script.now s.tree.now) =
    sym (length-map c.functions.result.now _) ∙ ap length c.functions.ensures.names ∙ ap (λ (x : Table). length x.functions.names) s.listed in
    record {
      loops = loops_of s.commands.now;
      are_loops = record { commands = s.commands.now; all = c.requires.commands; ordered = c.requires.ordered; each = refl };
      working = subst (λ (x : Certificate). IsWorking s.names.now (loops_of s.commands.now) (length (functions_in s.script.now s.tree.now)) x) (sym c.in_ok-draft.ensures.certificate)
          (subst (λ n. IsWorking s.names.now (loops_of s.commands.now) n c.in_ok-certificate.certificate) same c.in_ok-certificate.ensures.working);
    }

pub settle-requires-clause-variables : goal.settle-requires-clause-variables
settle-requires-clause-variables c =
    let s = c.args.subject.now in
    let reading = c.requires.admitted.reading.1 in
    let named : list_all is_name s.policy.now.names ≡ true = search rules in
    read_names_variables s.script.now s.tree.now s.policy.now s.names.now (MAX_NESTING, reading.0, reading.1) named c.requires.admitted.numbered

pub returns-clause-filled : goal.returns-clause-filled
returns-clause-filled c =
    let s = c.args.subject.now in
    let m : ℕ = length c.functions.result.now in
    let same : m ≡ length (functions_in s.script.now s.tree.now) =
    sym (length-map c.functions.result.now _) ∙ ap length c.functions.ensures.names ∙ ap (λ (x : Table). length x.functions.names) s.listed in
    let loops = loops_of s.commands.now in
    let are : AreLoops s.tree.now loops = record { commands = s.commands.now; all = c.requires.commands; ordered = c.requires.ordered; each = refl } in
    let long : length loops ≡ length s.commands.now = length-map s.commands.now _ in
    let few = few_listed s.script.now s.policy.now s.tree.now s.names.now c.requires.admitted s.commands.now c.requires.commands in
    let made = c.in_ok-draft.ensures.certificate in
    let working = subst (λ (x : Certificate). IsWorking s.names.now loops m x) (sym made) c.in_ok-certificate.ensures.working in
    is_filled s c.requires.admitted c.requires.stated loops are m same c.in_ok-certificate.certificate c.settle.new.draft.certificate c.in_ok-certificate.ensures.begun
    (subst (λ (x : Certificate). IsSettled s loops m x c.settle.new.draft.certificate) made (c.in_ok-settle.ensures loops m working)) c.count-count.ensures.distinct (omega (arith, long, few)) (omega (arith, c.functions.ensures.few))

pub returns-clause-sized : goal.returns-clause-sized
returns-clause-sized c =
    let s = c.args.subject.now in
    let m : ℕ = length c.functions.result.now in
    let working = subst (λ (x : Certificate). IsWorking s.names.now (loops_of s.commands.now) m x) (sym c.in_ok-draft.ensures.certificate) c.in_ok-certificate.ensures.working in
    (c.in_ok-settle.ensures (loops_of s.commands.now) m working).working.count
