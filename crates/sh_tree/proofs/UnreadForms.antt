-- Texts of forms that are refused by name, and bodies whose lines shells join in two ways: no
-- script reads them.
use Rattle.std.proofs.Common.{◌≡◌, ℕ, true, ◌<◌, false, not, ◌&&◌, List, [], ◌∷◌, Some, None, length, take, codes, refl, sym, ap, ◌∙◌, subst, arith}
use Rattle.std.proofs.lemmas.Bool.{true≢false}
use Rattle.sh_tree.specs.declared.refusal.Form.TheVariants as form
use Rattle.sh_tree.specs.declared.tree.Action.TheVariants as action
use Rattle.sh_tree.specs.declared.tree.ParameterOperator.TheVariants as operator
use Rattle.sh_tree.specs.declared.tree.Part.{Part}
use Rattle.sh_tree.specs.declared.tree.Part.TheVariants as part
use Rattle.sh_tree.specs.declared.tree.Redirect.{Redirect}
use Rattle.sh_tree.specs.declared.tree.Script.{Script}
use Rattle.sh_tree.specs.declared.tree.SingleStyle.TheVariants as single
use Rattle.sh_tree.specs.declared.tree.CommandStyle.TheVariants.{Paren, Backquote}
use Rattle.sh_tree.specs.declared.tree.Subject.TheVariants.{Name}
use Rattle.sh_tree.specs.declared.tree.Word.{Word}
use Rattle.sh_tree.specs.declared.token.command.Operator.TheVariants as op
use Rattle.sh_tree.specs.declared.token.command.Redirection.{Redirection}
use Rattle.sh_tree.specs.declared.token.word.Context.{Context}
use Rattle.sh_tree.specs.declared.token.word.Sign.TheVariants as sign
use Rattle.sh_tree.specs.standard.language.Arithmetic.{is_closed}
use Rattle.sh_tree.specs.standard.language.Commands.{begins_pipeline, direction_of, is_bar, is_location, is_newline_lead, link_of, redirection, separator}
use Rattle.sh_tree.specs.standard.language.Contexts.{in_document_of, in_unsplit}
use Rattle.sh_tree.specs.standard.language.HereDocuments.{Mark, behind_line, is_ambiguous, is_delimiter, keeps_document}
use Rattle.sh_tree.specs.standard.language.Parts.{keeps_lines}
use Rattle.sh_tree.specs.standard.language.Substitutions.{closes}
use Rattle.sh_tree.specs.standard.language.States.{Document, Spot, State, begun, facing, next, nth, past, within}
use Rattle.sh_tree.specs.standard.language.Trees.{param, span, word}
use Rattle.sh_tree.specs.standard.language.Reading as r
use Rattle.sh_tree.specs.standard.language.Reading.{ReadsParts, ReadsRedirect, ReadsScript, ReadsSequence, ReadsWord, lead_here, start}
use Rattle.sh_tree.specs.examples.Language.{IsUnread, bare, plain}
use Rattle.sh_tree.specs.examples.Unread.{across_text, backquoted_text, backslash_text, default_backquotes_text, dollar_delimiter_text, dollar_single_text, double_bracket_text, double_parenthesis_text, expanded_delimiter_text, joined_tab_text, late_end_text, location_text, negated_parenthesis_text, other_braced_text, quoted_backslash_text, split_comment_text, split_end_text, split_quotes_text, tabbed_end_text, tilde_delimiter_text, unsplit_text}
use Rattle.sh_tree.proofs.Inversions.{bare_command_ends, bare_word_ends, document_is, elements_word, first_part, items_end, items_first, no_sequence, nothing_at, one_part_word, opening_document, opening_operator, opening_redirect, opening_word, script_is, sequence_items, some_breaks, some_one, word_parts}
use Rattle.sh_tree.proofs.LanguageLemmas.{at_token, at_word, computes, the_mark}
use Rattle.sh_tree.proofs.UnreadLemmas.{ends_before, tabs_mark}

-- a text whose first token begins no command
begins_nothing : (b : List ℕ) → is_newline_lead (lead_here b (within (start b))) ≡ false → begins_pipeline (lead_here b (within (start b))) ≡ false
    → (start b).at < length b → IsUnread b
begins_nothing b on none below t h =
    let q = script_is h.2.script in
    ends_before b h.2.end q.0 (within (start b)) q.1 (no_sequence on none q.3) h.2.to_end below

pub double_parenthesis_unread : IsUnread double_parenthesis_text
unfolding computes
double_parenthesis_unread = let below : 0 < 5 = omega arith in begins_nothing double_parenthesis_text refl refl below

pub negated_parenthesis_unread : IsUnread negated_parenthesis_text
unfolding computes
negated_parenthesis_unread = let below : 0 < 4 = omega arith in begins_nothing negated_parenthesis_text refl refl below

pub double_bracket_unread : IsUnread double_bracket_text
unfolding computes
double_bracket_unread = let below : 0 < 7 = omega arith in begins_nothing double_bracket_text refl refl below

-- Words

no_location : {limit : ℕ} {b : List ℕ} {x : Context} {s u : Spot} {w : Word} → ReadsWord limit b x s u w → not x.colons && is_location b s.at u.at ≡ false
no_location (r.whole_word ps free kept) = free

pub location_unread : IsUnread location_text
unfolding computes
location_unread t h =
    let w = opening_word refl h.2.script in
    let end : w.0 ≡ at_word 3 1 0 = bare_word_ends refl refl w.2 in
    true≢false (ap (λ u. is_location location_text 0 u.at) (sym end) ∙ no_location w.2)

pub dollar_single_unread : IsUnread dollar_single_text
unfolding computes
dollar_single_unread t h =
    let w = opening_word refl h.2.script in
    nothing_at (sign.LeftOut form.DollarEscape) refl refl (word_parts w.2).2

pub backquoted_unread : IsUnread backquoted_text
unfolding computes
backquoted_unread t h =
    let w = opening_word refl h.2.script in
    let s = first_part (sign.Substitution Backquote) refl refl (word_parts w.2).2 in
    let q = script_is s.4.5 in
    let closed : closes Backquote backquoted_text s.4.0.at ≡ true = s.4.6 in
    true≢false (sym closed ∙ ap (λ v. closes Backquote backquoted_text v.at) (q.1 ∙ ap (λ v. v.spot) (no_sequence refl refl q.3)))

pub backslash_unread : IsUnread backslash_text
unfolding computes
backslash_unread t h =
    let w = opening_word refl h.2.script in
    let s = first_part (sign.Substitution Backquote) refl refl (word_parts w.2).2 in
    true≢false (sym s.4.7)

pub quoted_backslash_unread : IsUnread quoted_backslash_text
unfolding computes
quoted_backslash_unread t h =
    let w = opening_word refl h.2.script in
    let quotes = first_part sign.Double refl refl (word_parts w.2).2 in
    let s = first_part (sign.Substitution Backquote) refl refl quotes.4.4 in
    true≢false (sym s.4.7)

pub default_backquotes_unread : IsUnread default_backquotes_text
unfolding computes
default_backquotes_unread t h =
    let w = opening_word refl h.2.script in
    let quotes = first_part sign.Double refl refl (word_parts w.2).2 in
    let default = first_part (sign.Use (Name (span 3 4)) action.Default false) refl refl quotes.4.4 in
    nothing_at (sign.LeftOut form.Backquoted) refl refl default.4.5

pub other_braced_unread : IsUnread other_braced_text
unfolding computes
other_braced_unread t h =
    let w = opening_word refl h.2.script in
    nothing_at (sign.LeftOut form.Braced) refl refl (word_parts w.2).2

pub unsplit_unread : IsUnread unsplit_text
unfolding computes
unsplit_unread t h =
    let w = opening_word refl h.2.script in
    let quotes = first_part sign.Double refl refl (word_parts w.2).2 in
    let default = first_part (sign.Use (Name (span 3 4)) action.Default false) refl refl quotes.4.4 in
    nothing_at (sign.LeftOut form.AllParameters) refl refl default.4.5

-- Delimiters

-- the delimiter of a here-document is one
delimiter_is : {limit : ℕ} {b : List ℕ} {body : ℕ → Document} {s v : State} {q : Redirect} (at : Redirection) → redirection b s.spot.at ≡ Some at
    → direction_of at.operator ≡ None → ReadsRedirect limit b body s v q
    → (u : Spot) × (w : Word) × (is_delimiter b w ≡ true) × ReadsWord limit b (in_unsplit (next b at.end s).spot.at) (facing (next b at.end s)) u w
delimiter_is at is document (r.file {r = f} {d = d} h o l read) =
    let same : f ≡ at = some_one (sym h ∙ is) in
    let e : Some d ≡ None = sym o ∙ ap (λ p. direction_of p.operator) same ∙ document in
    cc
delimiter_is {limit = limit} {b = b} {s = s} at is document (r.here_document {u = u} {r = f} {w = w} h d l read k) =
    let same : f ≡ at = some_one (sym h ∙ is) in
    (u, w, k, subst (λ o. ReadsWord limit b (in_unsplit (next b o.end s).spot.at) (facing (next b o.end s)) u w) same read)

abbrev first_operator : ℕ → Redirection
first_operator end = record { number = None; operator = op.HereDoc; at = 0; end = end }

pub expanded_delimiter_unread : IsUnread expanded_delimiter_text
unfolding computes
expanded_delimiter_unread t h =
    let o = opening_redirect refl h.2.script in
    let d = delimiter_is (first_operator 2) refl refl o.6 in
    let ps = word_parts d.3 in
    let f = first_part (sign.Value (Name (span 3 4))) refl refl ps.2 in
    let parts : ps.0 ≡ param 2 4 (Name (span 3 4)) operator.Value ∷ f.2 = f.3 ∙ ap (λ p. p ∷ f.2) f.4.1 in
    true≢false (sym d.2 ∙ ap (is_delimiter expanded_delimiter_text) (ps.1 ∙ ap (word 2 d.0.at) parts))

pub tilde_delimiter_unread : IsUnread tilde_delimiter_text
unfolding computes
tilde_delimiter_unread t h =
    let o = opening_redirect refl h.2.script in
    let d = delimiter_is (first_operator 2) refl refl o.6 in
    let ps = word_parts d.3 in
    let f = first_part sign.Tilde refl refl ps.2 in
    let parts : ps.0 ≡ part.Tilde (span 2 4) ∷ f.2 = f.3 ∙ ap (λ p. p ∷ f.2) f.4.1 in
    true≢false (sym d.2 ∙ ap (is_delimiter tilde_delimiter_text) (ps.1 ∙ ap (word 2 d.0.at) parts))

pub dollar_delimiter_unread : IsUnread dollar_delimiter_text
unfolding computes
dollar_delimiter_unread t h =
    let o = opening_redirect refl h.2.script in
    let d = delimiter_is (first_operator 2) refl refl o.6 in
    let quoted : Part = part.Single single.Dollar (span 2 6) in
    let w = one_part_word (sign.Single single.Dollar) quoted 6 refl refl (λ z p q. q) refl refl d.3 in
    true≢false (sym d.2 ∙ ap (is_delimiter dollar_delimiter_text) w.1)

-- Bodies

-- newlines are read only where no body is awaited outside
newlines_are_free : {limit : ℕ} {b : List ℕ} {body : ℕ → Document} {s u : State} {t : Script} → is_newline_lead (lead_here b s) ≡ true
    → ReadsSequence limit b body s u t → s.spot.quiet ≡ false
newlines_are_free on (r.nothing k h) = (some_breaks on k).1
newlines_are_free on (r.sequence (r.list k h i)) = (some_breaks on k).1

pub across_unread : IsUnread across_text
unfolding computes
across_unread t h =
    let o = opening_operator (first_operator 2) false 4 (bare 2 3) refl refl refl refl
    (λ u y w. let o = one_part_word sign.Plain (plain 2 3) 3 refl refl (λ v p q. q) refl refl w in (ap (λ v. past across_text v (at_token 0 1 0)) o.0, o.1))
    h.2.script in
    let w = elements_word refl o.1.3 in
    let f = first_part (sign.Substitution Paren) refl refl (word_parts w.3).2 in
    true≢false (newlines_are_free refl (script_is f.4.5).3)

pub joined_tab_unread : IsUnread joined_tab_text
unfolding computes
joined_tab_unread t h =
    let at : Redirection = record { number = None; operator = op.HereDocTabs; at = 0; end = 3 } in
    let d = opening_document at true 4 (bare 3 4) refl refl refl refl
    (λ u y w. let o = one_part_word sign.Plain (plain 3 4) 4 refl refl (λ v p q. q) refl refl w in (ap (λ v. past joined_tab_text v (at_token 0 1 0)) o.0, o.1))
    refl refl h.2.script in
    let body = document_is tabs_mark [] refl d.1 in
    let end : span 10 11 ≡ body.0 = some_one body.3 in
    true≢false (ap (λ l. is_ambiguous tabs_mark joined_tab_text 5 l) end ∙ body.4)

pub late_end_unread : IsUnread late_end_text
unfolding computes
late_end_unread t h =
    let d = opening_document (first_operator 2) false 3 (bare 2 3) refl refl refl refl
    (λ u y w. let o = one_part_word sign.Plain (plain 2 3) 3 refl refl (λ v p q. q) refl refl w in (ap (λ v. past late_end_text v (at_token 0 1 0)) o.0, o.1))
    refl refl h.2.script in
    let body = document_is the_mark [] refl d.1 in
    let end : span 4 7 ≡ body.0 = some_one body.3 in
    true≢false (ap (λ l. is_ambiguous the_mark late_end_text 4 l) end ∙ body.4)

pub tabbed_end_unread : IsUnread tabbed_end_text
unfolding computes
tabbed_end_unread t h =
    let at : Redirection = record { number = None; operator = op.HereDocTabs; at = 0; end = 3 } in
    let d = opening_document at true 4 (bare 3 4) refl refl refl refl
    (λ u y w. let o = one_part_word sign.Plain (plain 3 4) 4 refl refl (λ v p q. q) refl refl w in (ap (λ v. past tabbed_end_text v (at_token 0 1 0)) o.0, o.1))
    refl refl h.2.script in
    let body = document_is tabs_mark [] refl d.1 in
    let end : span 7 11 ≡ body.0 = some_one body.3 in
    true≢false (ap (λ l. is_ambiguous tabs_mark tabbed_end_text 5 l) end ∙ body.4)

-- In a substitution in a body

-- after the command before the comment
abbrev before_comment : State
before_comment = record (at_token 8 2 1) { spot = record (at_word 8 2 1) { joins = true } }

comment_unread : (limit : ℕ) (u : Spot) (t : Script) → ReadsScript limit (take 15 split_comment_text) (record (at_word 6 1 1) { joins = true }) u t
    → u ≡ before_comment.spot
unfolding computes
comment_unread limit u t h =
    let b = take 15 split_comment_text in
    let q = script_is h in
    let i = sequence_items refl refl q.3 in
    let f = items_first refl i.1 in
    let colon : f.0 ≡ before_comment = bare_command_ends 7 refl refl refl refl refl refl f.2 in
    let follows = f.3 (ap (λ v. is_bar (lead_here b v)) colon) (ap (λ v. link_of (lead_here b v)) colon) in
    let last = items_end limit b (nth q.0.bodies) f.0 q.0 (ap (λ v. separator (lead_here b v)) colon) follows in
    q.1 ∙ ap (λ v. v.spot) (last.1 ∙ colon)

pub split_comment_unread : IsUnread split_comment_text
unfolding computes
split_comment_unread t h =
    let d = opening_document (first_operator 2) false 3 (bare 2 3) refl refl refl refl
    (λ u y w. let o = one_part_word sign.Plain (plain 2 3) 3 refl refl (λ v p q. q) refl refl w in (ap (λ v. past split_comment_text v (at_token 0 1 0)) o.0, o.1))
    refl refl h.2.script in
    let body = document_is the_mark [] refl d.1 in
    let end : span 15 16 ≡ body.0 = some_one body.3 in
    let parts = subst (λ l. ReadsParts h.0 (take l.start split_comment_text) (in_document_of the_mark) 10 (record (at_word 4 1 0) { joins = true }) body.1 body.2) (sym end) body.6 in
    let s = first_part (sign.Substitution Paren) refl refl parts in
    let there : s.4.0 ≡ before_comment.spot = comment_unread h.0 s.4.0 s.4.1 s.4.5 in
    let closes : is_closed (take 15 split_comment_text) s.4.0.at ≡ true = s.4.6 in
    true≢false (sym closes ∙ ap (λ v. is_closed (take 15 split_comment_text) v.at) there)

word_keeps : {limit : ℕ} {b : List ℕ} {x : Context} {s u : Spot} {w : Word} → ReadsWord limit b x s u w → keeps_lines b s.joins w.parts ≡ true
word_keeps (r.whole_word ps free kept) = kept

pub split_quotes_unread : IsUnread split_quotes_text
unfolding computes
split_quotes_unread t h =
    let b = take 14 split_quotes_text in
    let d = opening_document (first_operator 2) false 3 (bare 2 3) refl refl refl refl
    (λ u y w. let o = one_part_word sign.Plain (plain 2 3) 3 refl refl (λ v p q. q) refl refl w in (ap (λ v. past split_quotes_text v (at_token 0 1 0)) o.0, o.1))
    refl refl h.2.script in
    let body = document_is the_mark [] refl d.1 in
    let end : span 14 15 ≡ body.0 = some_one body.3 in
    let parts = subst (λ l. ReadsParts h.0 (take l.start split_quotes_text) (in_document_of the_mark) 10 (record (at_word 4 1 0) { joins = true }) body.1 body.2) (sym end) body.6 in
    let s = first_part (sign.Substitution Paren) refl refl parts in
    let w = opening_word refl s.4.5 in
    let ps = word_parts w.2 in
    let f = first_part (sign.Single single.Plain) refl refl ps.2 in
    let quotes : ps.0 ≡ part.Single single.Plain (span 6 12) ∷ f.2 = f.3 ∙ ap (λ p. p ∷ f.2) f.4.1 in
    true≢false (sym (word_keeps w.2) ∙ ap (λ v. keeps_lines b true v.parts) ps.1 ∙ ap (keeps_lines b true) quotes)

abbrev split_mark : Mark
split_mark = record { strip = false; quoted = true; delimiter = codes "F\\"; depth = 1 }

pub split_end_unread : IsUnread split_end_text
unfolding computes
split_end_unread t h =
    let b = take 18 split_end_text in
    let d = opening_document (first_operator 2) false 3 (bare 2 3) refl refl refl refl
    (λ u y w. let o = one_part_word sign.Plain (plain 2 3) 3 refl refl (λ v p q. q) refl refl w in (ap (λ v. past split_end_text v (at_token 0 1 0)) o.0, o.1))
    refl refl h.2.script in
    let body = document_is the_mark [] refl d.1 in
    let end : span 18 19 ≡ body.0 = some_one body.3 in
    let parts = subst (λ l. ReadsParts h.0 (take l.start split_end_text) (in_document_of the_mark) 10 (record (at_word 4 1 0) { joins = true }) body.1 body.2) (sym end) body.6 in
    let s = first_part (sign.Substitution Paren) refl refl parts in
    let at : Redirection = record { number = None; operator = op.HereDoc; at = 6; end = 8 } in
    let quoted : Part = part.Single single.Plain (span 8 12) in
    let inner = opening_document at false 12 (word 8 12 (quoted ∷ [])) refl refl refl refl
    (λ v y w. let o = one_part_word (sign.Single single.Plain) quoted 12 refl refl (λ z p q. q) refl refl w in
    (ap (λ z. past b z (begun (within (record (at_word 6 1 1) { joins = true })))) o.0, o.1))
    refl refl s.4.5 in
    let document = document_is split_mark [] refl inner.1 in
    let line : span 13 15 ≡ document.0 = some_one document.3 in
    true≢false (sym document.5 ∙ ap (λ l. keeps_document b true false split_mark (span 13 (behind_line b l.end))) (sym line))
