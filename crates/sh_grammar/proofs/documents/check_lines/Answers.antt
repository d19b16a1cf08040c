use Rattle.std.proofs.Common.{true, false, not, ◌&&◌, ◌+◌, ◌<◌, length, ap, ◌∙◌, arith}
use Rattle.sh_tree.specs.standard.language.Reading.{is_some}
use Rattle.sh_tree.specs.standard.language.Trees.{span}
use Rattle.sh_tree.specs.standard.Tree.{text_of}
use Rattle.sh_tree.specs.standard.language.Bytes.{is_first, is_tab}
use Rattle.sh_tree.specs.standard.language.HereDocuments.{begins_late, behind_line, has_joined, has_tabbed_line, is_split_text}
use Rattle.sh_grammar.proofs.CheckLemmas.{asked_of, ambiguous_told, behind_joined, late_told, lines_kept, split_told, tabbed_told, text_inside}
use Rattle.sh_grammar.proofs.documents.check_lines.Goals as goal

pub returns-in-Some : goal.returns-in-Some
unfolding is_some
returns-in-Some c =
    let b = c.args.script.now in
    let m = c.args.mark.now in
    let s = c.args.from.now in
    let l = c.args.line in
    let told = asked_of (λ t. has_joined (is_first is_tab) t) true _ (m.strip && not m.quoted) _ (text_of b (span s.at l.start)) c.in-Some.ensures.value c.strips_joined.ensures c.text.ensures in (
      behind_joined b c.text.result.now s.at l.start c.in-Some.at c.text.ensures c.in-Some.ensures.within c.requires.begins,
      ambiguous_told b m s l told,
    )

pub returns-in-Some-joined_if : goal.returns-in-Some-joined_if
unfolding is_some
returns-in-Some-joined_if c =
    let b = c.args.script.now in
    let m = c.args.mark.now in
    let s = c.args.from.now in
    let l = c.args.line in
    let text = c.text-2.ensures ∙ ap (λ e. text_of b (span s.at e)) c.behind_line.ensures.value in
    let at = c.in-Some-joined_if.at in
    let inside : at + 1 < length c.text-2.result.now = c.in-Some-joined_if.ensures.within in
    let told = asked_of is_split_text true _ (s.joins && m.quoted) _ (text_of b (span s.at (behind_line b l.end))) c.in-Some-joined_if.ensures.value c.keeps_joined.ensures text in (
      text_inside b c.text-2.result.now s.at (behind_line b l.end) at text (omega arith),
      split_told b m s l told,
    )

pub returns-in-Some-tabbed_if : goal.returns-in-Some-tabbed_if
unfolding is_some
returns-in-Some-tabbed_if c =
    let b = c.args.script.now in
    let m = c.args.mark.now in
    let s = c.args.from.now in
    let l = c.args.line in
    let text = c.text-3.ensures ∙ ap (λ e. text_of b (span s.at e)) c.behind_line.ensures.value in
    let told = asked_of (has_tabbed_line true) true _ (s.tabs && not m.strip) _ (text_of b (span s.at (behind_line b l.end))) c.in-Some-tabbed_if.ensures.value c.keeps_tabs.ensures text in (
      text_inside b c.text-3.result.now s.at (behind_line b l.end) c.in-Some-tabbed_if.at text c.in-Some-tabbed_if.ensures.within,
      tabbed_told b m s l told,
    )

pub returns-in-Some-joined_if-2 : goal.returns-in-Some-joined_if-2
unfolding is_some
returns-in-Some-joined_if-2 c =
    let b = c.args.script.now in
    let m = c.args.mark.now in
    let l = c.args.line in
    let at : c.in-Some-joined_if-2.at + 1 < length c.text-end.result.now = c.in-Some-joined_if-2.ensures.within in
    let told = asked_of is_split_text true _ (not m.quoted && begins_late (text_of b l)) _ (text_of b l) c.in-Some-joined_if-2.ensures.value (c.joins_end.ensures ∙ ap (λ t. not m.quoted && begins_late t) c.text-end.ensures) c.text-end.ensures in (
      text_inside b c.text-end.result.now l.start l.end c.in-Some-joined_if-2.at c.text-end.ensures (omega arith),
      late_told b m c.args.from.now l told,
    )

pub returns : goal.returns
unfolding is_some
returns c =
    let b = c.args.script.now in
    let m = c.args.mark.now in
    let s = c.args.from.now in
    let l = c.args.line in
    let second = c.text-2.ensures ∙ ap (λ e. text_of b (span s.at e)) c.behind_line.ensures.value in
    let third = c.text-3.ensures ∙ ap (λ e. text_of b (span s.at e)) c.behind_line.ensures.value in
    lines_kept b m s l
    (asked_of (λ t. has_joined (is_first is_tab) t) false _ (m.strip && not m.quoted) _ (text_of b (span s.at l.start)) c.in_default.ensures.value c.strips_joined.ensures c.text.ensures)
    (asked_of is_split_text false _ (s.joins && m.quoted) _ (text_of b (span s.at (behind_line b l.end))) c.in_default-joined_if.ensures.value c.keeps_joined.ensures second)
    (asked_of (has_tabbed_line true) false _ (s.tabs && not m.strip) _ (text_of b (span s.at (behind_line b l.end))) c.in_default-tabbed_if.ensures.value c.keeps_tabs.ensures third)
    (asked_of is_split_text false _ (not m.quoted && begins_late (text_of b l)) _ (text_of b l) c.in_default-joined_if-2.ensures.value (c.joins_end.ensures ∙ ap (λ t. not m.quoted && begins_late t) c.text-end.ensures) c.text-end.ensures)
