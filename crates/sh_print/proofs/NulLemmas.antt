-- The canonical text has no NUL, as its words and here-documents have none.
use Rattle.std.proofs.Common.{◌≡◌, ℕ, zero, suc, ◌+◌, ◌==◌, Bool, true, false, ◌||◌, List, [], ◌∷◌, ◌++◌, map, codes, Option, Some, None, refl, ap, ◌∙◌, arith}
use Rattle.std.specs.List.{list_any, list_all, flat_map}
use Rattle.std.proofs.lemmas.Bool.{and_parts}
use Rattle.std.proofs.lemmas.Bool.Decides.{nat_tests}
use Rattle.std.proofs.lemmas.List.Folds.{list_any-append}
use Rattle.sh_tree.specs.declared.token.command.Stage.{Stage}
use Rattle.sh_tree.specs.declared.tree.ClauseEnd.{ClauseEnd}
use Rattle.sh_tree.specs.declared.tree.ClauseEnd.TheVariants as clause_end
use Rattle.sh_tree.specs.declared.tree.Direction.{Direction}
use Rattle.sh_tree.specs.declared.tree.Direction.TheVariants as direction
use Rattle.sh_tree.specs.declared.tree.Link.{Link}
use Rattle.sh_tree.specs.declared.tree.Link.TheVariants as link
use Rattle.sh_tree.specs.declared.tree.LoopKind.{LoopKind}
use Rattle.sh_tree.specs.declared.tree.LoopKind.TheVariants as loop
use Rattle.sh_tree.specs.standard.language.Bytes.{is_digit, is_name, is_name_byte}
use Rattle.sh_tree.specs.standard.language.Reading.{HasNoNul}
use Rattle.sh_print.specs.Bare as bare
use Rattle.sh_print.specs.Bare.{Text, Document}
use Rattle.sh_print.specs.Layout.{tabs, separated, direction_text, here_text, number_text, redirect_text, element_text, redirect_documents, element_documents, document_text, line_end, join, negation, background_text, link_text, loop_text, clause_end_text, for_words_text, block, pending, kind_pending, last_pending, pipeline_pending, items_text, links_text, pipeline_text, commands_text, piped_text, command_text, kind_text, branches_text, otherwise_text, clauses_text}
use Rattle.sh_print.proofs.Printable as p
use Rattle.sh_print.proofs.Printable.{Printable, PrintableSequence, PrintableList, PrintableLinks, PrintablePipeline, PrintableCommands, PrintableCommand, PrintableCompound, PrintableBranches, PrintableOtherwise, PrintableForWords, PrintableWords, PrintableClauses, PrintablePatterns, PrintableRedirect, PrintableRedirects, PrintableElements, is_number}

-- Texts

no_join : (s t : Text) → HasNoNul s → HasNoNul t → HasNoNul (s ++ t)
no_join s t h k = list_any-append (λ c. c == 0) s t ∙ ap (λ x. x || list_any (λ c. c == 0) t) h ∙ k

no_cons : (c : ℕ) (t : Text) → (c == 0) ≡ false → HasNoNul t → HasNoNul (c ∷ t)
no_cons c t h k = ap (λ x. x || list_any (λ d. d == 0) t) h ∙ k

tabs_none : (depth : ℕ) → HasNoNul (tabs depth)
tabs_none zero = refl
tabs_none (suc depth) = no_cons 9 (tabs depth) refl (tabs_none depth)

class_none : (f : ℕ → Bool) → ((c : ℕ) → f c ≡ true → (c == 0) ≡ false) → (t : Text) → list_all f t ≡ true → HasNoNul t
class_none f none [] h = refl
class_none f none (c ∷ t) h = let both = and_parts (f c) (list_all f t) h in no_cons c t (none c both.0) (class_none f none t both.1)

name_none : (t : Text) → is_name t ≡ true → HasNoNul t
name_none t h = class_none is_name_byte (λ c k. grind (arith, nat_tests, k)) t (and_parts _ _ h).1

number_none : (n : Option Text) → is_number n ≡ true → HasNoNul (number_text n)
number_none None h = refl
number_none (Some t) h = class_none is_digit (λ c k. grind (arith, nat_tests, k)) t (and_parts _ _ h).1

direction_none : (d : Direction) → HasNoNul (direction_text d)
direction_none direction.Read = refl
direction_none direction.Write = refl
direction_none direction.Clobber = refl
direction_none direction.Append = refl
direction_none direction.Both = refl
direction_none direction.CopyIn = refl
direction_none direction.CopyOut = refl

here_none : (strip : Bool) → HasNoNul (here_text strip)
here_none true = refl
here_none false = refl

-- Lists of texts and of here-documents

abbrev Each : {A : Type 0} → (A → Text) → List A → Type 0
Each f [] = Unit {0}
Each f (x ∷ xs) = HasNoNul (f x) × Each f xs

each_join : {A : Type 0} (f : A → Text) (xs ys : List A) → Each f xs → Each f ys → Each f (xs ++ ys)
each_join f [] ys h k = k
each_join f (x ∷ xs) ys h k = (h.0, each_join f xs ys h.1 k)

each_none : {A : Type 0} (f : A → Text) (xs : List A) → Each f xs → HasNoNul (flat_map f xs)
each_none f [] h = refl
each_none f (x ∷ xs) h = no_join (f x) (flat_map f xs) h.0 (each_none f xs h.1)

abbrev Clean : List Document → Type 0
Clean ds = Each document_text ds

abbrev Texts : List Text → Type 0
Texts ts = Each (λ t. t) ts

-- texts, each after a separator
behind_none : (by : Text) (ts : List Text) → HasNoNul by → Texts ts → HasNoNul (flat_map (λ t. by ++ t) ts)
behind_none by [] k h = refl
behind_none by (t ∷ ts) k h = no_join (by ++ t) (flat_map (λ u. by ++ u) ts) (no_join by t k h.0) (behind_none by ts k h.1)

separated_none : (by : Text) (ts : List Text) → HasNoNul by → Texts ts → HasNoNul (separated by ts)
separated_none by [] k h = refl
separated_none by (t ∷ ts) k h = no_join t (flat_map (λ u. by ++ u) ts) h.0 (behind_none by ts k h.1)

line_none : (ds : List Document) → Clean ds → HasNoNul (line_end ds)
line_none ds h = no_cons 10 (flat_map document_text ds) refl (each_none document_text ds h)

join_none : (depth : ℕ) (ds : List Document) → Clean ds → HasNoNul (join depth ds)
join_none depth [] h = refl
join_none depth (d ∷ ds) h = no_join (line_end (d ∷ ds)) (tabs depth) (line_none (d ∷ ds) h) (tabs_none depth)

block_none : (depth : ℕ) (opening inside : Text) → HasNoNul opening → HasNoNul inside → HasNoNul (block depth opening inside)
block_none depth opening inside h k = no_join opening (10 ∷ (inside ++ tabs depth)) h (no_cons 10 (inside ++ tabs depth) refl (no_join inside (tabs depth) k (tabs_none depth)))

-- a command after a bar
piped_one : (depth : ℕ) (ds : List Document) (more : Text) → Clean ds → HasNoNul more → HasNoNul (codes " |" ++ (join depth ds ++ more))
piped_one depth ds more h k = no_join (codes " |") (join depth ds ++ more) refl (no_join (join depth ds) more (join_none depth ds h) k)

loop_none : (k : LoopKind) → HasNoNul (loop_text k)
loop_none loop.While = refl
loop_none loop.Until = refl

end_none : (e : ClauseEnd) → HasNoNul (clause_end_text e)
end_none clause_end.Break = refl
end_none clause_end.FallThrough = refl

link_none : (l : Link) → HasNoNul (link_text l)
link_none link.AndThen = refl
link_none link.OrElse = refl

negation_none : (negated : Bool) → HasNoNul (negation negated)
negation_none true = refl
negation_none false = refl

background_none : (background : Bool) → HasNoNul (background_text background)
background_none true = refl
background_none false = refl

do_none : (depth : ℕ) (inside : Text) → HasNoNul inside → HasNoNul (block depth (codes "do") inside ++ codes "done")
do_none depth inside h = no_join (block depth (codes "do") inside) (codes "done") (block_none depth (codes "do") inside refl h) refl

branch_none : (depth : ℕ) (opening condition inside more : Text) → HasNoNul opening → HasNoNul condition → HasNoNul inside → HasNoNul more
    → HasNoNul (block depth opening condition ++ (block depth (codes "then") inside ++ more))
branch_none depth opening condition inside more h first inner k =
    no_join (block depth opening condition) (block depth (codes "then") inside ++ more) (block_none depth opening condition h first)
    (no_join (block depth (codes "then") inside) more (block_none depth (codes "then") inside refl inner) k)

item_none : (depth : ℕ) (first links more : Text) → HasNoNul first → HasNoNul links → HasNoNul more → HasNoNul (tabs depth ++ (first ++ (links ++ more)))
item_none depth first links more h k l = no_join (tabs depth) (first ++ (links ++ more)) (tabs_none depth) (no_join first (links ++ more) h (no_join links more k l))

module _ {limit : ℕ} where
  -- Redirections, elements and words

  redirect_none : {k m : ℕ} {quiet : Bool} {r : bare.Redirect} → PrintableRedirect limit k quiet m r → HasNoNul (redirect_text r) × Clean (redirect_documents r)
  redirect_none (p.file {number = n} {direction = d} {w = w} number token word) =
      (no_join (number_text n) (direction_text d ++ 32 ∷ w) (number_none n number) (no_join (direction_text d) (32 ∷ w) (direction_none d) (no_cons 32 w refl word.no_nul)), tt)
  redirect_none (p.here_document {number = n} {strip = strip} {document = d} {w = w} number token word delimits document) = (
    no_join (number_text n) (here_text strip ++ 32 ∷ w) (number_none n number) (no_join (here_text strip) (32 ∷ w) (here_none strip) (no_cons 32 w refl word.no_nul)),
    (no_join d.body (d.end ++ 10 ∷ []) document.body_no_nul (no_join d.end (10 ∷ []) document.end_no_nul refl), tt),
  )

  redirects_none : {k m : ℕ} {quiet : Bool} {rs : List bare.Redirect} → PrintableRedirects limit k quiet m rs
      → HasNoNul (flat_map (λ r. 32 ∷ redirect_text r) rs) × Clean (flat_map redirect_documents rs)
  redirects_none p.no_redirects = (refl, tt)
  redirects_none (p.more_redirects {r = r} {rs = rs} first more) =
      let one = redirect_none first in
      let rest = redirects_none more in
      (no_join (32 ∷ redirect_text r) _ (no_cons 32 (redirect_text r) refl one.0) rest.0, each_join document_text (redirect_documents r) (flat_map redirect_documents rs) one.1 rest.1)

  elements_none : {k m : ℕ} {g : Stage} {quiet : Bool} {es : List bare.Element} → PrintableElements limit k g quiet m es → Texts (map element_text es) × Clean (flat_map element_documents es)
  elements_none p.no_elements = (tt, tt)
  elements_none (p.assigned_element {name = name} {value = value} stage is word more) =
      let rest = elements_none more in
      ((no_join name (61 ∷ value) (name_none name is) (no_cons 61 value refl word.no_nul), rest.0), rest.1)
  elements_none (p.word_element token word more) = let rest = elements_none more in ((word.no_nul, rest.0), rest.1)
  elements_none (p.redirect_element {r = r} {es = es} first more) =
      let one = redirect_none first in
      let rest = elements_none more in
      ((one.0, rest.0), each_join document_text (redirect_documents r) (flat_map element_documents es) one.1 rest.1)

  words_none : {k m : ℕ} {ws : List Text} → PrintableWords limit k m ws → Texts ws
  words_none p.no_words = tt
  words_none (p.more_words token word more) = (word.no_nul, words_none more)

  for_words_none : {k m : ℕ} {o : Option (List Text)} → PrintableForWords limit k m o → HasNoNul (for_words_text o)
  for_words_none p.arguments = refl
  for_words_none (p.listed {ws = ws} words) = no_join (codes " in") (flat_map (λ w. 32 ∷ w) ws) refl (behind_none (32 ∷ []) ws refl (words_none words))

  patterns_none : {k m : ℕ} {ws : List Text} → PrintablePatterns limit k m ws → Texts ws
  patterns_none (p.last_pattern token word) = (word.no_nul, tt)
  patterns_none (p.more_patterns token word more) = (word.no_nul, patterns_none more)

  -- Commands

  -- a compound command with its redirections
  body_none : {k m : ℕ} {rs : List bare.Redirect} (depth : ℕ) (c : bare.Kind) → HasNoNul (kind_text depth c) × Clean (kind_pending c) → PrintableRedirects limit k false m rs
      → HasNoNul (command_text depth (bare.command c rs)) × Clean (pending (bare.command c rs))
  unfolding pending items_text
  body_none {rs = rs} depth c given redirects =
      let others = redirects_none redirects in
      (no_join (kind_text depth c) (flat_map (λ r. 32 ∷ redirect_text r) rs) given.0 others.0, each_join document_text (kind_pending c) (flat_map redirect_documents rs) given.1 others.1)

  mutual
    unfolding pending last_pending pipeline_pending items_text

    command_none : {k m : ℕ} {c : bare.Command} (depth : ℕ) → PrintableCommand limit k m c → HasNoNul (command_text depth c) × Clean (pending c)
    command_none depth (p.simple_command {es = es} some elements) =
        let given = elements_none elements in
        (no_join (separated (32 ∷ []) (map element_text es)) [] (separated_none (32 ∷ []) (map element_text es) refl given.0) refl, each_join document_text (flat_map element_documents es) [] given.1 tt)
    command_none depth (p.compound_command {k = c} compound redirects) = body_none depth c (compound_none depth compound) redirects
    command_none depth (p.definition {name = name} {k = c} {rs = rs} is word compound redirects) =
        let body = bare.command c rs in
        let given = body_none depth c (compound_none depth compound) redirects in
        let inner = no_join (tabs depth) (command_text depth body) (tabs_none depth) given.0 in (
          no_join (name ++ (codes "()" ++ 10 ∷ (tabs depth ++ command_text depth body))) []
              (no_join name (codes "()" ++ 10 ∷ (tabs depth ++ command_text depth body)) (name_none name is) (no_join (40 ∷ 41 ∷ 10 ∷ []) (tabs depth ++ command_text depth body) refl inner)) refl,
          each_join document_text (pending body) [] given.1 tt,
        )

    compound_none : {k m : ℕ} {c : bare.Kind} (depth : ℕ) → PrintableCompound limit k m c → HasNoNul (kind_text depth c) × Clean (kind_pending c)
    compound_none depth (p.group {list = items} l given) = (no_join (block depth (codes "{") (items_text (depth + 1) items)) (codes "}") (block_none depth (codes "{") (items_text (depth + 1) items) refl (list_none (depth + 1) given)) refl, tt)
    compound_none depth (p.subshell {list = items} l given) = (no_join (block depth (codes "(") (items_text (depth + 1) items)) (codes ")") (block_none depth (codes "(") (items_text (depth + 1) items) refl (list_none (depth + 1) given)) refl, tt)
    compound_none depth (p.conditional {branches = bs} {otherwise = o} l branches others) = (
      no_join (branches_text depth (codes "if") bs) (otherwise_text depth o ++ codes "fi") (branches_none depth (codes "if") refl branches)
          (no_join (otherwise_text depth o) (codes "fi") (otherwise_none depth others) refl),
      tt,
    )
    compound_none depth (p.loop {kind = kind} {condition = condition} {body = body} l first inner) = (
      no_join (block depth (loop_text kind) (items_text (depth + 1) condition)) (block depth (codes "do") (items_text (depth + 1) body) ++ codes "done")
          (block_none depth (loop_text kind) (items_text (depth + 1) condition) (loop_none kind) (list_none (depth + 1) first)) (do_none depth (items_text (depth + 1) body) (list_none (depth + 1) inner)),
      tt,
    )
    compound_none depth (p.for_loop {name = name} {words = words} {body = body} l is given inner) =
        let rest = block depth (codes "do") (items_text (depth + 1) body) ++ codes "done" in
        let lines = no_cons 10 (tabs depth ++ rest) refl (no_join (tabs depth) rest (tabs_none depth) (do_none depth (items_text (depth + 1) body) (list_none (depth + 1) inner))) in (
          no_join (codes "for ") (name ++ (for_words_text words ++ (10 ∷ tabs depth ++ rest))) refl
              (no_join name (for_words_text words ++ (10 ∷ tabs depth ++ rest)) (name_none name is) (no_join (for_words_text words) (10 ∷ tabs depth ++ rest) (for_words_none given) lines)),
          tt,
        )
    compound_none depth (p.case_of {w = w} {clauses = clauses} l token word given) =
        let rest = clauses_text depth clauses ++ (tabs depth ++ codes "esac") in
        let lines = no_join (clauses_text depth clauses) (tabs depth ++ codes "esac") (clauses_none depth given) (no_join (tabs depth) (codes "esac") (tabs_none depth) refl) in
        (no_join (codes "case ") (w ++ (codes " in" ++ 10 ∷ rest)) refl (no_join w (codes " in" ++ 10 ∷ rest) word.no_nul (no_join (32 ∷ 105 ∷ 110 ∷ 10 ∷ []) rest refl lines)), tt)

    branches_none : {k m : ℕ} {bs : bare.Branches} (depth : ℕ) (opening : Text) → HasNoNul opening → PrintableBranches limit k m bs → HasNoNul (branches_text depth opening bs)
    branches_none depth opening h (p.last_branch {condition = c} {body = x} first inner) = branch_none depth opening (items_text (depth + 1) c) (items_text (depth + 1) x) [] h (list_none (depth + 1) first) (list_none (depth + 1) inner) refl
    branches_none depth opening h (p.more_branches {condition = c} {body = x} {branches = bs} first inner more) =
        branch_none depth opening (items_text (depth + 1) c) (items_text (depth + 1) x) (branches_text depth (codes "elif") bs) h (list_none (depth + 1) first) (list_none (depth + 1) inner)
        (branches_none depth (codes "elif") refl more)

    otherwise_none : {k m : ℕ} {o : bare.Otherwise} (depth : ℕ) → PrintableOtherwise limit k m o → HasNoNul (otherwise_text depth o)
    otherwise_none depth p.no_else = refl
    otherwise_none depth (p.else_of {body = items} inner) = block_none depth (codes "else") (items_text (depth + 1) items) refl (list_none (depth + 1) inner)

    clauses_none : {k m : ℕ} {cs : bare.Clauses} (depth : ℕ) → PrintableClauses limit k m cs → HasNoNul (clauses_text depth cs)
    clauses_none depth p.no_clauses = refl
    clauses_none depth (p.more_clauses {patterns = ws} {body = items} {end = end} {clauses = cs} patterns inner more) =
        let ending = clause_end_text end ++ 10 ∷ clauses_text depth cs in
        let behind = items_text (depth + 2) items ++ (tabs (depth + 2) ++ ending) in
        let last = no_join (clause_end_text end) (10 ∷ clauses_text depth cs) (end_none end) (no_cons 10 (clauses_text depth cs) refl (clauses_none depth more)) in
        let lines = no_join (items_text (depth + 2) items) (tabs (depth + 2) ++ ending) (sequence_none (depth + 2) inner) (no_join (tabs (depth + 2)) ending (tabs_none (depth + 2)) last) in
        no_join (tabs (depth + 1)) (40 ∷ separated (codes " | ") ws ++ (41 ∷ 10 ∷ behind)) (tabs_none (depth + 1))
        (no_cons 40 (separated (codes " | ") ws ++ (41 ∷ 10 ∷ behind)) refl
        (no_join (separated (codes " | ") ws) (41 ∷ 10 ∷ behind) (separated_none (codes " | ") ws refl (patterns_none patterns)) (no_join (41 ∷ 10 ∷ []) behind refl lines)))

    pipeline_none : {k m : ℕ} {x : bare.Pipeline} (depth : ℕ) → PrintablePipeline limit k m x → HasNoNul (pipeline_text depth x) × Clean (pipeline_pending x)
    pipeline_none depth (p.pipeline {negated = negated} {parts = parts} commands) =
        let given = commands_none depth commands in
        (no_join (negation negated) (commands_text depth parts) (negation_none negated) given.0, given.1)

    commands_none : {k m : ℕ} {cs : bare.Commands} (depth : ℕ) → PrintableCommands limit k m cs → HasNoNul (commands_text depth cs) × Clean (last_pending [] cs)
    commands_none depth (p.last_command {c = c} first) = let given = command_none depth first in (no_join (command_text depth c) [] given.0 refl, given.1)
    commands_none depth (p.more_commands {c = c} {cs = cs} first more) =
        let given = command_none depth first in
        let rest = piped_none depth (pending c) given.1 more in
        (no_join (command_text depth c) (piped_text depth (pending c) cs) given.0 rest.0, rest.1)

    piped_none : {k m : ℕ} {cs : bare.Commands} (depth : ℕ) (ds : List Document) → Clean ds → PrintableCommands limit k m cs → HasNoNul (piped_text depth ds cs) × Clean (last_pending ds cs)
    piped_none depth ds h (p.last_command {c = c} first) =
        let given = command_none depth first in
        (piped_one depth ds (command_text depth c ++ []) h (no_join (command_text depth c) [] given.0 refl), given.1)
    piped_none depth ds h (p.more_commands {c = c} {cs = cs} first more) =
        let given = command_none depth first in
        let rest = piped_none depth (pending c) given.1 more in
        (piped_one depth ds (command_text depth c ++ piped_text depth (pending c) cs) h (no_join (command_text depth c) (piped_text depth (pending c) cs) given.0 rest.0), rest.1)

    links_none : {k m : ℕ} {ls : bare.Links} (depth : ℕ) (ds : List Document) (background : Bool) → Clean ds → PrintableLinks limit k m ls → HasNoNul (links_text depth ds ls background)
    links_none depth ds background h p.no_links = no_join (background_text background) (line_end ds) (background_none background) (line_none ds h)
    links_none depth ds background h (p.more_links {link = l} {p = x} {rest = ls} first more) =
        let given = pipeline_none depth first in
        let rest = links_text depth (pipeline_pending x) ls background in
        no_join (link_text l) (join depth ds ++ (pipeline_text depth x ++ rest)) (link_none l)
        (no_join (join depth ds) (pipeline_text depth x ++ rest) (join_none depth ds h) (no_join (pipeline_text depth x) rest given.0 (links_none depth (pipeline_pending x) background given.1 more)))

    list_none : {k m : ℕ} {items : bare.Items} (depth : ℕ) → PrintableList limit k m items → HasNoNul (items_text depth items)
    list_none depth (p.last_item {first = x} {links = ls} {background = background} first links) =
        let given = pipeline_none depth first in
        item_none depth (pipeline_text depth x) (links_text depth (pipeline_pending x) ls background) [] given.0 (links_none depth (pipeline_pending x) background given.1 links) refl
    list_none depth (p.more_items {first = x} {links = ls} {background = background} {rest = rest} first links more) =
        let given = pipeline_none depth first in
        item_none depth (pipeline_text depth x) (links_text depth (pipeline_pending x) ls background) (items_text depth rest) given.0 (links_none depth (pipeline_pending x) background given.1 links) (list_none depth more)

    sequence_none : {k m : ℕ} {items : bare.Items} (depth : ℕ) → PrintableSequence limit k m items → HasNoNul (items_text depth items)
    sequence_none depth p.nothing = refl
    sequence_none depth (p.sequence given) = list_none depth given

pub canonical_none : (limit m : ℕ) (items : bare.Items) → Printable limit m items → HasNoNul (items_text 0 items)
canonical_none limit m items given = sequence_none 0 given
