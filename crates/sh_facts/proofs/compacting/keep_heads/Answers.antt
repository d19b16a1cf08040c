use Rattle.std.proofs.Common.{◌≡◌, ℕ, ◌+◌, ◌<◌, ◌≤◌, nat_eq, false, List, length, refl, sym, ◌∙◌, subst, rules, arith}
use Rattle.std.specs.Option.{option_copied}
use Rattle.std.proofs.lemmas.Bool.Decides.{nat_tests}
use Rattle.sh_domain.specs.declared.certificate.Entry.{Entry}
use Rattle.sh_domain.specs.declared.certificate.Facts as value
use Rattle.sh_domain.specs.declared.certificate.Facts.TheVariants.{NotReached}
use Rattle.sh_facts.proofs.CompactingLemmas.{KeepsHeads, turns_begin, turn_kept, turns_end}
use Rattle.sh_facts.proofs.compacting.keep_heads.Goals as goal

abbrev default : Entry
default = record { before = NotReached; zero = NotReached; nonzero = NotReached }

pub loop-done-init : goal.loop-done-init
loop-done-init c = record {
  kept =
      subst (λ (hs : List (ℕ × value.Facts)). KeepsHeads c.args.certificate.now c.args.rows.now c.args.rows.now 0 hs) (sym c.new-heads.ensures.empty)
      (turns_begin c.args.certificate.now c.args.rows.now);
  none = λ k l. rw c.new-heads.ensures.empty refl;
}

pub keep_head-requires : goal.keep_head-requires
keep_head-requires c = record { sized = c.loop-done.invariant.kept.count ∙ c.requires.sized; last = c.loop-done.invariant.none (c.loop-done.done + 1) (omega arith) }

pub loop-done-preserved : goal.loop-done-preserved
loop-done-preserved c =
    let i = c.loop-done.done in
    let lt : i < length c.args.certificate.now.entries.items = search rules in
    record {
      kept = turn_kept c.args.certificate.now c.args.rows.now c.loop-done.rows c.keep_head.new.rows i (i + 1) default (option_copied c.head-head.result) c.loop-done.heads.entries c.keep_head.new.heads.entries lt refl c.head-head.ensures
          c.loop-done.invariant.kept c.in_ok-keep_head.ensures.kept;
      none = λ k l. let apart : nat_eq (i + 1) k ≡ false = grind (arith, nat_tests, l) in c.in_ok-keep_head.ensures.others k apart ∙ c.loop-done.invariant.none k (omega (arith, l));
    }

pub returns : goal.returns
returns c =
    let past : length c.args.certificate.now.entries.items ≤ c.loop-done.done = search rules in
    turns_end c.args.certificate.now c.args.rows.now c.loop-done.rows c.loop-done.done c.loop-done.heads.entries past c.loop-done.invariant.kept
