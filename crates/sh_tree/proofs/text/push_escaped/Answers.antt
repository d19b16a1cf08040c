use Rattle.std.proofs.Common.{sym, ◌∙◌, inl, inr, arith}
use borrow.Author.Tests.{ltb-true}
use Rattle.sh_tree.proofs.TextLemmas.{escape_step, byte_step, escaped_all, shorter, twice_shorter}
use Rattle.sh_tree.proofs.text.push_escaped.Goals as goal
use Rattle.sh_tree.proofs.text.push_escaped.Goals.{in_default-behind-via-then-behind-lt1, in_default-behind-via-in-len1-up-behind+else-first-eq92}

pub loop-rest-preserved-then-first-eq92 : goal.loop-rest-preserved-then-first-eq92
loop-rest-preserved-then-first-eq92 c = record {
  text =
      escape_step c.loop-rest.text.items c.push.new.self.items c.loop-rest.rest.now c.escape_of.result
      c.in_ok-push-in-len1-up-behind.ensures.items c.if-first-eq92.true c.in-len1-up.len_at_least c.in-len1-up-behind.len_at_least c.escape_of.ensures
      ∙ c.loop-rest.invariant.text;
  within = twice_shorter c.loop-rest.rest.now _ c.loop-rest.invariant.within;
}

pub loop-rest-preserved : goal.loop-rest-preserved
loop-rest-preserved c = record {
  text =
      byte_step c.loop-rest.text.items c.push-in_default-behind.new.self.items c.loop-rest.rest.now
      c.in_ok-push-in_default-behind.ensures.items c.in-len1-up.len_at_least
      (elim c.in_default-behind.branch [ in_default-behind-via-then-behind-lt1 w ↦ inl (omega (arith, ltb-true)) | in_default-behind-via-in-len1-up-behind+else-first-eq92 w ↦ inr w.if-first-eq92.false ])
      ∙ c.loop-rest.invariant.text;
  within = shorter c.loop-rest.rest.now _ c.loop-rest.invariant.within;
}

pub returns-clause-text : goal.returns-clause-text
returns-clause-text c = sym (escaped_all c.loop-rest.text.items c.loop-rest.rest.now c.in_default.len_below) ∙ c.loop-rest.invariant.text
