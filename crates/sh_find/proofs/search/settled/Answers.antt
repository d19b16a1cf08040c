use Rattle.std.proofs.Common.{rules, ◌≡◌, ℕ, true, [], flat_map, length, refl, sym, ap, ◌∙◌, subst, arith}
use Rattle.std.specs.List.{list_all}
use Rattle.std.proofs.lemmas.List.{length-map}
use Rattle.sh_tree.specs.declared.limits.TheConstants.{MAX_NESTING}
use Rattle.sh_tree.specs.standard.language.Bytes.{is_name}
use Rattle.sh_tree.specs.standard.program.Trees.{script_of}
use Rattle.sh_runs.specs.Calls.{Table}
use Rattle.sh_domain.specs.Facts.{start_facts}
use Rattle.sh_domain.specs.Faults.{broken, faults}
use Rattle.sh_domain.specs.Rules.{script_bounds}
use Rattle.sh_domain.specs.Reading.{AreLoops}
use Rattle.sh_domain.specs.Reading.{loops_of}
use Rattle.sh_domain.proofs.VariableLemmas.{read_names_variables}
use Rattle.sh_domain.specs.Admitted.{claims_in, functions_in}
use Rattle.sh_domain.specs.declared.certificate.Certificate.{Certificate}
use Rattle.sh_rows.specs.declared.bits.BitRow.{BitRow}
use Rattle.sh_drafts.specs.Stated.{ClaimsStated, asked_bounds}
use Rattle.sh_drafts.specs.Ready.{asked_of, IsReady}
use Rattle.sh_drafts.specs.Turns.{sheet_by}
use Rattle.sh_drafts.specs.Working.{IsWorking}
use Rattle.sh_drafts.specs.Starts.{start_of}
use Rattle.sh_drafts.proofs.AboveLemmas.{first_above}
use Rattle.sh_find.proofs.GreatestLemmas.{is_greatest}
use Rattle.sh_sweeps.proofs.LoopsLemmas.{few_listed}
use Rattle.sh_drafts.proofs.ReadyLemmas.{numbered}
use Rattle.sh_drafts.proofs.StartLemmas.{declared_start}
use Rattle.sh_sweeps.proofs.StatedLemmas.{all_asked}
use Rattle.sh_find.proofs.search.settled.Goals as goal

pub unreached-requires : goal.unreached-requires
unreached-requires c =
    let s = c.args.subject.now in
    let few = few_listed s.script.now s.policy.now s.tree.now s.names.now c.requires.admitted s.commands.now c.requires.commands in
    omega (arith, few)

pub settle-requires-clause-ready : goal.settle-requires-clause-ready
settle-requires-clause-ready c =
    let s = c.args.subject.now in
    let loops = loops_of s.commands.now in
    let m : ℕ = length c.functions-functions.result.now in
    let working = c.in_ok-certificate.ensures.working s.names.now (sym c.count-count.ensures.count) in
    let h = numbered s.script.now s.policy.now s.tree.now s.names.now c.requires.admitted in
    let made = c.in_ok-draft.ensures in
    subst (λ (x : Certificate). IsReady s x c.in_ok-draft.draft.probe.count) (sym made.certificate) (subst (λ (p : BitRow). IsReady s c.in_ok-certificate.certificate p.count) (sym made.probe) record {
      admitted = c.requires.admitted;
      loops = loops;
      functions = m;
      working = working;
      over = λ other keeps. first_above s.names.now h (functions_in s.script.now s.tree.now) loops m c.in_ok-certificate.certificate working c.in_ok-certificate.ensures.claims c.in_ok-certificate.ensures.drops other;
      probe = omega (arith, c.in_ok-probe.ensures.limit, c.count-count.ensures.count);
      commands = c.requires.commands;
    })

pub settle-requires-clause-working : goal.settle-requires-clause-working
settle-requires-clause-working c =
    let s = c.args.subject.now in
    let m : ℕ = length c.functions-functions.result.now in
    let same : m ≡ length (functions_in s.script.now s.tree.now) =
    sym (length-map c.functions-functions.result.now _) ∙ ap length c.functions-functions.ensures.names ∙ ap (λ (x : Table). length x.functions.names) s.listed in
    record {
      loops = loops_of s.commands.now;
      are_loops = record { commands = s.commands.now; all = c.requires.commands; ordered = c.requires.ordered; each = refl };
      working = subst (λ (x : Certificate). IsWorking s.names.now (loops_of s.commands.now) (length (functions_in s.script.now s.tree.now)) x) (sym c.in_ok-draft.ensures.certificate)
          (subst (λ n. IsWorking s.names.now (loops_of s.commands.now) n c.in_ok-certificate.certificate) same (c.in_ok-certificate.ensures.working s.names.now (sym c.count-count.ensures.count)));
    }

pub settle-requires-clause-variables : goal.settle-requires-clause-variables
settle-requires-clause-variables c =
    let s = c.args.subject.now in
    let reading = c.requires.admitted.reading.1 in
    let named : list_all is_name s.policy.now.names ≡ true = search rules in
    read_names_variables s.script.now s.tree.now s.policy.now s.names.now (MAX_NESTING, reading.0, reading.1) named c.requires.admitted.numbered

pub returns-clause-greatest : goal.returns-clause-greatest
unfolding ClaimsStated faults
returns-clause-greatest c =
    let s = c.args.subject.now in
    let m : ℕ = length c.functions-functions.result.now in
    let same : m ≡ length (functions_in s.script.now s.tree.now) =
    sym (length-map c.functions-functions.result.now _) ∙ ap length c.functions-functions.ensures.names ∙ ap (λ (x : Table). length x.functions.names) s.listed in
    let loops = loops_of s.commands.now in
    let are : AreLoops s.tree.now loops = record { commands = s.commands.now; all = c.requires.commands; ordered = c.requires.ordered; each = refl } in
    let long : length loops ≡ length s.commands.now = length-map s.commands.now _ in
    let few = few_listed s.script.now s.policy.now s.tree.now s.names.now c.requires.admitted s.commands.now c.requires.commands in
    let working = subst (λ (x : Certificate). IsWorking s.names.now loops m x) (sym c.in_ok-draft.ensures.certificate) (c.in_ok-certificate.ensures.working s.names.now (sym c.count-count.ensures.count)) in
    let found = c.in_ok-settle.ensures loops m working in
    let ks = script_bounds (script_of s.script.now s.tree.now) in
    let all : asked_of s ≡ ks = ap (λ b. asked_bounds b ks) c.requires.unstated ∙ all_asked ks in
    let here : start_of s ≡ start_facts s.policy.now = declared_start s c.requires.unstated in
    is_greatest s.script.now s.policy.now s.tree.now s.names.now c.requires.admitted loops are m same c.settle.new.draft.certificate found.working
    (subst (λ f. flat_map (broken f (claims_in s.script.now s.tree.now (sheet_by s.names.now c.settle.new.draft.certificate))) ks ≡ []) here
    (subst (λ ls. flat_map (broken (start_of s) (claims_in s.script.now s.tree.now (sheet_by s.names.now c.settle.new.draft.certificate))) ls ≡ []) all found.rules))
    (λ other fit keeps. found.over other (record {
      fit = fit;
      stated = subst (λ b. ClaimsStated s.names.now (functions_in s.script.now s.tree.now) b s.compact.now (claims_in s.script.now s.tree.now other)) (sym c.requires.unstated) tt;
      rules = subst (λ ls. flat_map (broken (start_of s) (claims_in s.script.now s.tree.now other)) ls ≡ []) (sym all)
          (subst (λ f. flat_map (broken f (claims_in s.script.now s.tree.now other)) ks ≡ []) (sym here) keeps);
    }))
    c.count-count.ensures.distinct (omega (arith, long, few)) (omega (arith, c.functions-functions.ensures.few))

pub returns-clause-sized : goal.returns-clause-sized
returns-clause-sized c =
    let s = c.args.subject.now in
    let m : ℕ = length c.functions-functions.result.now in
    let working = subst (λ (x : Certificate). IsWorking s.names.now (loops_of s.commands.now) m x) (sym c.in_ok-draft.ensures.certificate) (c.in_ok-certificate.ensures.working s.names.now (sym c.count-count.ensures.count)) in
    (c.in_ok-settle.ensures (loops_of s.commands.now) m working).working.count
