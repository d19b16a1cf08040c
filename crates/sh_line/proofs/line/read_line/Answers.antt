use Rattle.std.proofs.Common.{rules, ◌∙◌, codes, sym}
use Rattle.clap.specs.Words.{found_of, rows_of}
use Rattle.clap.proofs.WalkLemmas.{first_value-rows}
use Rattle.sh_line.proofs.LineLemmas.{no_file, not_two, policy_stops, two_inputs}
use Rattle.sh_line.proofs.line.read_line.Goals as goal

pub unreachable-requires : goal.unreachable-requires
unreachable-requires c = no_file (found_of c.args.sub.now) (codes "FILE") c.requires.file c.in_default.ensures

pub returns-then-are_both_input-clause-stop : goal.returns-then-are_both_input-clause-stop
returns-then-are_both_input-clause-stop c =
    let given = sym (first_value-rows (found_of c.args.sub.now) (codes "FILE")) ∙ sym c.in-Some.ensures in (
      two_inputs c.args.name.now (rows_of (found_of c.args.sub.now)) c.in-Some.file.now _ _ _ c.action_of-action.ensures.name given c.source_of-script.ensures c.certificate_of-cert.ensures
          (c.are_both_input.ensures.both c.if-are_both_input.true),
      c.in_ok-to_string.ensures.ok,
    )

pub returns-in_err-policy-clause-stop : goal.returns-in_err-policy-clause-stop
returns-in_err-policy-clause-stop c =
    let given = sym (first_value-rows (found_of c.args.sub.now) (codes "FILE")) ∙ sym c.in-Some.ensures in
    let apart =
    not_two c.args.name.now (rows_of (found_of c.args.sub.now)) c.in-Some.file.now _ _ _ c.action_of-action.ensures.name given c.source_of-script.ensures c.certificate_of-cert.ensures
    (c.are_both_input.ensures.apart c.if-are_both_input.false)
    in
    let stops = policy_stops c.args.name.now (rows_of (found_of c.args.sub.now)) _ apart c.in_err-policy.ensures.stop in
    search rules

pub returns-clause-line : goal.returns-clause-line
returns-clause-line c =
    let given = sym (first_value-rows (found_of c.args.sub.now) (codes "FILE")) ∙ sym c.in-Some.ensures in
    record {
      action = c.action_of-action.ensures.name;
      shown = c.action_of-action.ensures.shown;
      script = (c.in-Some.file.now, given, c.source_of-script.ensures);
      cert = c.certificate_of-cert.ensures;
      apart = c.are_both_input.ensures.apart c.if-are_both_input.false;
      policy = c.in_ok-policy.ensures.policy;
    }
