-- Texts that no script reads: each reading of them goes one way, and there it fails.
use Rattle.std.proofs.Common.{◌≡◌, ℕ, true, ◌<◌, false, not, ◌||◌, List, [], ◌∷◌, None, length, take, codes, refl, sym, ap, ◌∙◌, subst, arith}
use Rattle.std.proofs.lemmas.Bool.{true≢false}
use Rattle.sh_tree.specs.declared.refusal.Form.TheVariants as form
use Rattle.sh_tree.specs.declared.tree.Action.TheVariants as action
use Rattle.sh_tree.specs.declared.tree.Command.{Command}
use Rattle.sh_tree.specs.declared.tree.Subject.TheVariants.{Name}
use Rattle.sh_tree.specs.declared.token.command.Lead.TheVariants as lead
use Rattle.sh_tree.specs.declared.token.command.Operator.TheVariants as op
use Rattle.sh_tree.specs.declared.token.command.Reserved.TheVariants as reserved
use Rattle.sh_tree.specs.declared.token.word.Sign.TheVariants as sign
use Rattle.sh_tree.specs.declared.token.command.Redirection.{Redirection}
use Rattle.sh_tree.specs.standard.language.Commands.{is_bar, is_newline_lead, is_reserved, begins_pipeline, link_of, separator}
use Rattle.sh_tree.specs.standard.language.States.{Spot, State, Document, nth, within, begun, past, as_deep, closing}
use Rattle.sh_tree.specs.declared.tree.Part.{Part}
use Rattle.sh_tree.specs.declared.tree.Part.TheVariants as part
use Rattle.sh_tree.specs.declared.tree.Script.{Script}
use Rattle.sh_tree.specs.declared.tree.SingleStyle.TheVariants as single
use Rattle.sh_tree.specs.declared.tree.CommandStyle.TheVariants.{Paren}
use Rattle.sh_tree.specs.standard.language.Contexts.{in_document_of}
use Rattle.sh_tree.specs.standard.language.HereDocuments.{Mark, behind_line, keeps_document}
use Rattle.sh_tree.specs.standard.language.Trees.{span, word}
use Rattle.sh_tree.specs.standard.language.Reading.{ReadsParts, ReadsScript, ReadsCommand, ReadsRedirects, lead_here, parted, skip, is_empty, is_some}
use Rattle.sh_tree.specs.examples.Language.{IsUnread, open_quote_text, open_braced_text, split_name_text, no_expression_text, lone_bar_text, split_operator_text, clause_end_text, open_document_text, split_document_text, tabbed_document_text, unclosed_text, plain, bare}
use Rattle.sh_tree.proofs.Inversions.{apart, first_part, behind_plain, nothing_at, word_parts, expression_begins, begins_operand, script_is, opening_word, no_sequence, sequence_items, list_items, items_first, items_end, items_ended, compound_is, group_is, redirects_end, redirects_first, redirect_file, bare_word_ends, bare_command_ends, document_is, one_part_word, opening_document, some_one}
use Rattle.sh_tree.proofs.LanguageLemmas.{computes, at_word, at_token, the_mark}

pub open_quote_unread : IsUnread open_quote_text
unfolding computes
open_quote_unread t h =
    let w = opening_word refl h.2.script in
    let f = first_part sign.Double refl refl (word_parts w.2).2 in
    nothing_at sign.Open refl refl (behind_plain refl f.4.4).1

pub open_braced_unread : IsUnread open_braced_text
unfolding computes
open_braced_unread t h =
    let w = opening_word refl h.2.script in
    let f = first_part (sign.Use (Name (span 2 3)) action.Default false) refl refl (word_parts w.2).2 in
    nothing_at sign.Open refl refl f.4.5

pub split_name_unread : IsUnread split_name_text
unfolding computes
split_name_unread t h =
    let w = opening_word refl h.2.script in
    let f = first_part sign.Double refl refl (word_parts w.2).2 in
    nothing_at (sign.LeftOut form.Continuation) refl refl f.4.4

pub no_expression_unread : IsUnread no_expression_text
unfolding computes begins_operand
no_expression_unread t h =
    let w = opening_word refl h.2.script in
    let f = first_part sign.Arith refl refl (word_parts w.2).2 in
    true≢false (sym (expression_begins f.4.5))

-- a reading ends where its text does
pub ends_before : (b : List ℕ) (end : Spot) (u v : State) → end ≡ u.spot → u ≡ v → end.at ≡ length b → v.spot.at < length b → ⊥
ends_before b end u v e f n below =
    let at : v.spot.at ≡ length b = sym (ap (λ s. s.at) e ∙ ap (λ s. s.spot.at) f) ∙ n in
    omega arith

pub lone_bar_unread : IsUnread lone_bar_text
unfolding computes
lone_bar_unread t h =
    let q = script_is h.2.script in
    let below : 0 < 3 = omega arith in
    ends_before lone_bar_text h.2.end q.0 (at_token 0 0 0) q.1 (no_sequence refl refl q.3) h.2.to_end below

pub split_operator_unread : IsUnread split_operator_text
unfolding computes
split_operator_unread t h =
    let q = script_is h.2.script in
    let below : 0 < 7 = omega arith in
    ends_before split_operator_text h.2.end q.0 (at_token 0 0 0) q.1 (no_sequence refl refl q.3) h.2.to_end below

pub clause_end_unread : IsUnread clause_end_text
unfolding computes
clause_end_unread t h =
    let q = script_is h.2.script in
    let i = sequence_items refl refl q.3 in
    let f = items_first refl i.1 in
    let behind : f.0 ≡ at_token 1 1 0 = bare_command_ends 1 refl refl refl refl refl refl f.2 in
    let follows = f.3 (ap (λ s. is_bar (lead_here clause_end_text s)) behind) (ap (λ s. link_of (lead_here clause_end_text s)) behind) in
    let last = items_end _ _ _ _ _ (ap (λ s. separator (lead_here clause_end_text s)) behind) follows in
    let below : 1 < 3 = omega arith in
    ends_before clause_end_text h.2.end q.0 (at_token 1 1 0) q.1 (last.1 ∙ behind) h.2.to_end below

pub open_document_unread : IsUnread open_document_text
unfolding computes
open_document_unread t h =
    let at : Redirection = record { number = None; operator = op.HereDoc; at = 0; end = 2 } in
    let d = opening_document at false 3 (bare 2 3) refl refl refl refl
    (λ u y w. let o = one_part_word sign.Plain (plain 2 3) 3 refl refl (λ v p q. q) refl refl w in (ap (λ v. past open_document_text v (at_token 0 1 0)) o.0, o.1))
    refl refl h.2.script in
    let end = document_is the_mark [] refl d.1 in
    apart is_some (sym end.3) refl refl

-- inside the substitution in the body
abbrev inner_spot : Spot
inner_spot = record { at = 6; count = 1; depth = 1; quiet = false; joins = true; tabs = false }

abbrev inner_mark : Mark
inner_mark = record { strip = false; quoted = true; delimiter = codes "F"; depth = 1 }

inner_unread : (limit : ℕ) (u : Spot) (t : Script) → ReadsScript limit (take 18 split_document_text) inner_spot u t → ⊥
unfolding computes
inner_unread limit u t h =
    let b = take 18 split_document_text in
    let at : Redirection = record { number = None; operator = op.HereDoc; at = 6; end = 8 } in
    let quoted : Part = part.Single single.Plain (span 8 11) in
    let d = opening_document at false 11 (word 8 11 (quoted ∷ [])) refl refl refl refl
    (λ v y w. let o = one_part_word (sign.Single single.Plain) quoted 11 refl refl (λ z p q. q) refl refl w in (ap (λ z. past b z (begun (within inner_spot))) o.0, o.1))
    refl refl h in
    let body = document_is inner_mark [] refl d.1 in
    let end : span 14 15 ≡ body.0 = some_one body.3 in
    true≢false (sym body.5 ∙ ap (λ l. keeps_document b true false inner_mark (span 12 (behind_line b l.end))) (sym end))

pub split_document_unread : IsUnread split_document_text
unfolding computes
split_document_unread t h =
    let at : Redirection = record { number = None; operator = op.HereDoc; at = 0; end = 2 } in
    let d = opening_document at false 3 (bare 2 3) refl refl refl refl
    (λ u y w. let o = one_part_word sign.Plain (plain 2 3) 3 refl refl (λ v p q. q) refl refl w in (ap (λ v. past split_document_text v (at_token 0 1 0)) o.0, o.1))
    refl refl h.2.script in
    let body = document_is the_mark [] refl d.1 in
    let end : span 18 19 ≡ body.0 = some_one body.3 in
    let parts = subst (λ l. ReadsParts h.0 (take l.start split_document_text) (in_document_of the_mark) 10 (record (at_word 4 1 0) { joins = true }) body.1 body.2) (sym end) body.6 in
    let f = first_part (sign.Substitution Paren) refl refl parts in
    inner_unread h.0 f.4.0 f.4.1 f.4.5

-- the same where the outer one is stripped of tabs
abbrev pub tabs_mark : Mark
tabs_mark = record { strip = true; quoted = false; delimiter = codes "E"; depth = 0 }

abbrev tabbed_spot : Spot
tabbed_spot = record { at = 7; count = 1; depth = 1; quiet = false; joins = true; tabs = true }

abbrev tabbed_mark : Mark
tabbed_mark = record { strip = false; quoted = false; delimiter = codes "F"; depth = 1 }

tabbed_unread : (limit : ℕ) (u : Spot) (t : Script) → ReadsScript limit (take 18 tabbed_document_text) tabbed_spot u t → ⊥
unfolding computes
tabbed_unread limit u t h =
    let b = take 18 tabbed_document_text in
    let at : Redirection = record { number = None; operator = op.HereDoc; at = 7; end = 9 } in
    let d = opening_document at false 10 (bare 9 10) refl refl refl refl
    (λ v y w. let o = one_part_word sign.Plain (plain 9 10) 10 refl refl (λ z p q. q) refl refl w in (ap (λ z. past b z (begun (within tabbed_spot))) o.0, o.1))
    refl refl h in
    let body = document_is tabbed_mark [] refl d.1 in
    let end : span 14 15 ≡ body.0 = some_one body.3 in
    true≢false (sym body.5 ∙ ap (λ l. keeps_document b true true tabbed_mark (span 11 (behind_line b l.end))) (sym end))

pub tabbed_document_unread : IsUnread tabbed_document_text
unfolding computes
tabbed_document_unread t h =
    let at : Redirection = record { number = None; operator = op.HereDocTabs; at = 0; end = 3 } in
    let d = opening_document at true 4 (bare 3 4) refl refl refl refl
    (λ u y w. let o = one_part_word sign.Plain (plain 3 4) 4 refl refl (λ v p q. q) refl refl w in (ap (λ v. past tabbed_document_text v (at_token 0 1 0)) o.0, o.1))
    refl refl h.2.script in
    let body = document_is tabs_mark [] refl d.1 in
    let end : span 18 19 ≡ body.0 = some_one body.3 in
    let parts = subst (λ l. ReadsParts h.0 (take l.start tabbed_document_text) (in_document_of tabs_mark) 10 (record (at_word 5 1 0) { joins = true; tabs = true }) body.1 body.2) (sym end) body.6 in
    let f = first_part (sign.Substitution Paren) refl refl parts in
    tabbed_unread h.0 f.4.0 f.4.1 f.4.5

-- what is between the braces of the outer group, up to `}` after the redirection of the inner one
inner_group : (limit : ℕ) (body : ℕ → Document) (v : State) (c : Command) → ReadsCommand limit unclosed_text body (at_token 2 1 1) v c → v ≡ at_token 12 3 1
unfolding computes
inner_group limit body v c h =
    let g = compound_is (lead.Reserved reserved.LeftBrace) refl refl h in
    let inside = group_is _ refl g.5 in
    let items = list_items refl inside.4 in
    let f = items_first refl items.1 in
    let a : f.0 ≡ at_token 5 3 2 = bare_command_ends 5 refl refl refl refl refl refl f.2 in
    let follows = f.3 (ap (λ s. is_bar (lead_here unclosed_text s)) a) (ap (λ s. link_of (lead_here unclosed_text s)) a) in
    let ended : inside.0 ≡ at_token 7 3 2 =
    items_ended _ _ _ _ _ false (ap (λ s. separator (lead_here unclosed_text s)) a) (ap (λ s. is_newline_lead (lead_here unclosed_text (parted unclosed_text s))) a)
    (ap (λ s. begins_pipeline (lead_here unclosed_text (parted unclosed_text s))) a) follows ∙ ap (parted unclosed_text) a in
    let braces : g.0 ≡ at_token 9 3 1 = inside.2 ∙ ap (λ u. as_deep (at_token 2 2 1) (skip unclosed_text 1 u)) ended in
    let redirects = redirects_first refl (subst (λ s. ReadsRedirects limit unclosed_text body s g.1 g.3) braces g.6) in
    let file = redirect_file (record { number = None; operator = op.Greater; at = 9; end = 10 }) refl refl redirects.4 in
    let word : file.0 ≡ at_word 11 3 1 = bare_word_ends refl refl file.3 in
    let target : redirects.0 ≡ at_token 12 3 1 = file.2 ∙ ap (λ u. past unclosed_text u (at_token 9 3 1)) word in
    let end = redirects_end refl (subst (λ s. ReadsRedirects limit unclosed_text body s g.1 redirects.2) target redirects.5) in
    g.4 ∙ ap (λ qs. closing (is_empty qs) g.1) redirects.3 ∙ ap (closing false) end.0

pub unclosed_unread : IsUnread unclosed_text
unfolding computes
unclosed_unread t h =
    let q = script_is h.2.script in
    let i = sequence_items refl refl q.3 in
    let f = items_first refl i.1 in
    let g = compound_is (lead.Reserved reserved.LeftBrace) refl refl f.2 in
    let inside = group_is _ refl g.5 in
    let items = list_items refl inside.4 in
    let c = items_first refl items.1 in
    let behind : c.0 ≡ at_token 12 3 1 = inner_group h.0 (nth q.0.bodies) c.0 c.1 c.2 in
    let follows = c.3 (ap (λ s. is_bar (lead_here unclosed_text s)) behind) (ap (λ s. link_of (lead_here unclosed_text s)) behind) in
    let last = items_end _ _ _ _ _ (ap (λ s. separator (lead_here unclosed_text s)) behind) follows in
    true≢false (sym last.0 ∙ ap (λ s. not (is_reserved (lead_here unclosed_text s)) || s.closed) behind)
