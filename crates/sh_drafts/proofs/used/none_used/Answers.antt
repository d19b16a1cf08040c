use Rattle.std.proofs.Common.{None, replicate, ap, ◌∙◌, inl, inr}
use Rattle.sh_drafts.proofs.UsedLemmas.{none_or_some, noted_first}
use Rattle.sh_drafts.proofs.used.none_used.Goals as goal

pub returns : goal.returns
returns c =
    noted_first c.args.rows.now _ (c.new.ensures.count ∙ c.count.ensures)
    (c.in_ok-places.ensures.items_if_clones_equal (λ y e. elim (none_or_some y) [ inl none ↦ none | inr some ↦ absurd (rw some.1 at e) ]) ∙ ap (λ n. replicate n None) c.len.ensures)
