-- Texts that are put together piece by piece.
use Rattle.std.proofs.Common.{◌≡◌, ℕ, suc, ◌<◌, ◌≤◌, ◌+◌, ◌-◌, Bool, false, ◌==◌, List, [], ◌∷◌, ◌++◌, map, take, drop, length, get_or, codes, Result, OnOk, refl, sym, ap, arith, ◌∙◌, append_assoc, length-append}
use Rattle.std.specs.List.{flat_map}
use Rattle.std.specs.Prelude.{Some, None, slice_get}
use Rattle.std.proofs.lemmas.Bool.{eq-eqb, ne_eqb}
use Rattle.std.proofs.lemmas.List.{append-nil, drop_all, drop_more, take_all}
use Rattle.std.proofs.lemmas.Result.{on_ok_weaker}
use Rattle.sh_tree.specs.declared.tree.Branch.{Branch, out-Branch}
use Rattle.sh_tree.specs.declared.tree.Clause.{Clause, out-Clause}
use Rattle.sh_tree.specs.declared.tree.Command.{Command, out-Command}
use Rattle.sh_tree.specs.declared.tree.Item.{Item, out-Item}
use Rattle.sh_tree.specs.declared.tree.AndOr.{out-AndOr}
use Rattle.sh_tree.specs.declared.tree.Link.{Link}
use Rattle.sh_tree.specs.declared.tree.Pipe.{Pipe, out-Pipe}
use Rattle.sh_tree.specs.declared.tree.Script.{Script, out-Script}
use Rattle.sh_print.specs.Bare.{Text, Document}
use Rattle.sh_print.specs.Layout.{tabs, separated, redirect_text, redirect_documents, document_text, line_end, join, negation, background_text, link_text, block, clause_end_text, pending, kind_pending, last_pending, pipeline_pending, items_text, links_text, pipeline_text, commands_text, piped_text, command_text, kind_text, branches_text, clauses_text}
use Rattle.sh_print.specs.Lists.{links_from, items_from, commands_from, branches_from, clauses_from, item_text, branch_text, clause_text}
use Rattle.sh_print.specs.Pending.{lines_of, pending_text, gap}
use Rattle.sh_print.specs.Trees.{word_of, redirect_of, script_of, pipeline_of, command_of, kind_of}
use Rattle.sh_print.proofs.TreeLemmas.{script_out, pipeline_out, command_out}

-- one piece more
pub joined : (out mid new a b : List ℕ) → mid ≡ out ++ a → new ≡ mid ++ b → new ≡ out ++ (a ++ b)
joined out mid new a b first last = last ∙ ap (λ t. t ++ b) first ∙ append_assoc out a b

pub after : {T E : Type 0} (r : Result T E) (out mid new a b : List ℕ) → mid ≡ out ++ a → OnOk r (new ≡ mid ++ b) → OnOk r (new ≡ out ++ (a ++ b))
after r out mid new a b first = on_ok_weaker r (joined out mid new a b first)

pub thrice : {T E : Type 0} (r : Result T E) (out a d new x y z : List ℕ) → a ≡ out ++ x → d ≡ a ++ y → OnOk r (new ≡ d ++ z) → OnOk r (new ≡ out ++ (x ++ (y ++ z)))
thrice r out a d new x y z first second last = after r out a new x (y ++ z) first (after r a d new y z second last)

-- the whole
pub whole : {T E : Type 0} (r : Result T E) (out new a b : List ℕ) → b ≡ a → OnOk r (new ≡ out ++ a) → OnOk r (new ≡ out ++ b)
whole r out new a b is = on_ok_weaker r (λ h. h ∙ ap (λ t. out ++ t) (sym is))

-- Heads of commands, and what comes after them

pub for_pushed : {T E : Type 0} (r : Result T E) (depth : ℕ) (out a new name words body : List ℕ) {text : List ℕ}
    → text ≡ codes "for " ++ (name ++ (words ++ (10 ∷ tabs depth ++ body))) → a ≡ out ++ (codes "for " ++ (name ++ (words ++ 10 ∷ tabs depth))) → OnOk r (new ≡ a ++ body)
    → OnOk r (new ≡ out ++ text)
for_pushed r depth out a new name words body is first last =
    whole r out new _ _ (is ∙ sym (ap (λ t. codes "for " ++ t) (append_assoc name (words ++ 10 ∷ tabs depth) body ∙ ap (λ t. name ++ t) (append_assoc words (10 ∷ tabs depth) body))))
    (after r out a new (codes "for " ++ (name ++ (words ++ 10 ∷ tabs depth))) body first last)

pub case_pushed : {T E : Type 0} (r : Result T E) (depth : ℕ) (out a d new word clauses : List ℕ) {text : List ℕ}
    → text ≡ codes "case " ++ (word ++ (codes " in" ++ 10 ∷ (clauses ++ (tabs depth ++ codes "esac")))) → a ≡ out ++ (codes "case " ++ (word ++ codes " in" ++ 10 ∷ [])) → d ≡ a ++ clauses
    → OnOk r (new ≡ d ++ (tabs depth ++ codes "esac")) → OnOk r (new ≡ out ++ text)
case_pushed r depth out a d new word clauses is first second last =
    let rest = clauses ++ (tabs depth ++ codes "esac") in
    whole r out new _ _ (is ∙ sym (ap (λ t. codes "case " ++ t) (append_assoc (word ++ codes " in") (10 ∷ []) rest ∙ append_assoc word (codes " in") (10 ∷ rest))))
    (after r out a new (codes "case " ++ (word ++ codes " in" ++ 10 ∷ [])) rest first (after r a d new clauses (tabs depth ++ codes "esac") second last))

pub define_pushed : {T E : Type 0} (r : Result T E) (depth : ℕ) (out a new name body : List ℕ) {text : List ℕ}
    → text ≡ name ++ (codes "()" ++ 10 ∷ (tabs depth ++ body)) → a ≡ out ++ (name ++ (codes "()" ++ 10 ∷ tabs depth)) → OnOk r (new ≡ a ++ body) → OnOk r (new ≡ out ++ text)
define_pushed r depth out a new name body is first last =
    whole r out new _ _ (is ∙ sym (append_assoc name (codes "()" ++ 10 ∷ tabs depth) body)) (after r out a new (name ++ (codes "()" ++ 10 ∷ tabs depth)) body first last)

-- Lists

-- the first element of a list, and those after it
pub first_rest : {X : Type 0} (xs : List X) (x : X) → 1 ≤ length xs → x ≡ get_or xs 0 x → xs ≡ x ∷ take (length xs - 1) (drop 1 xs)
first_rest [] x some is = absurd (omega arith)
first_rest (y ∷ ys) x some is = ap (λ z. z ∷ ys) (sym is) ∙ ap (λ zs. x ∷ zs) (sym (take_all (length (y ∷ ys) - 1) ys (omega arith)))

-- texts after the first one, each after a separator
pub separated_done : (by : Text) (all left rest : List Text) (t : Text) (out mid new : List ℕ) → all ≡ t ∷ rest → mid ≡ out ++ t → left ≡ []
    → new ++ flat_map (λ u. by ++ u) left ≡ mid ++ flat_map (λ u. by ++ u) rest → new ≡ out ++ separated by all
separated_done by all left rest t out mid new is first none last =
    joined out mid new t (flat_map (λ u. by ++ u) rest) first (sym (append-nil new) ∙ sym (ap (λ ts. new ++ flat_map (λ u. by ++ u) ts) none) ∙ last)
    ∙ ap (λ ts. out ++ separated by ts) (sym is)

-- all of a list is printed
pub flat_done : {X : Type 0} (f : X → List ℕ) (xs : List X) (i : ℕ) (out new : List ℕ) → length xs ≤ i → new ++ flat_map f (drop i xs) ≡ out ++ flat_map f xs → new ≡ out ++ flat_map f xs
flat_done f xs i out new over left = sym (append-nil new) ∙ sym (ap (λ ys. new ++ flat_map f ys) (drop_all i xs over)) ∙ left

items_flat : (depth : ℕ) (b : List ℕ) (xs : List Item) → items_text depth (items_from b xs) ≡ flat_map (item_text depth b) xs
unfolding items_text items_from
items_flat depth b [] = refl
items_flat depth b (x ∷ xs) =
    let first = pipeline_text depth (pipeline_of b (out-AndOr (out-Item x).list).first) in
    let links = links_text depth (pipeline_pending (pipeline_of b (out-AndOr (out-Item x).list).first)) (links_from b (out-AndOr (out-Item x).list).rest) (out-Item x).background in
    ap (λ t. tabs depth ++ (first ++ (links ++ t))) (items_flat depth b xs)
    ∙ sym (append_assoc (tabs depth) (first ++ links) (flat_map (item_text depth b) xs) ∙ ap (λ t. tabs depth ++ t) (append_assoc first links (flat_map (item_text depth b) xs)))

pub script_flat : (depth : ℕ) (b : List ℕ) (t : Script) → items_text depth (script_of b t) ≡ flat_map (item_text depth b) (out-Script t).items
script_flat depth b t = ap (items_text depth) (script_out b t) ∙ items_flat depth b (out-Script t).items

pub branches_flat : (depth : ℕ) (b : List ℕ) (xs : List Branch) → branches_text depth (codes "elif") (branches_from b xs) ≡ flat_map (branch_text depth (codes "elif") b) xs
unfolding items_text branches_from
branches_flat depth b [] = refl
branches_flat depth b (x ∷ xs) =
    let condition = block depth (codes "elif") (items_text (depth + 1) (script_of b (out-Branch x).condition)) in
    let body = block depth (codes "then") (items_text (depth + 1) (script_of b (out-Branch x).body)) in
    ap (λ t. condition ++ (body ++ t)) (branches_flat depth b xs) ∙ sym (append_assoc condition body (flat_map (branch_text depth (codes "elif") b) xs))

pub no_branches_text : (depth : ℕ) (b : List ℕ) (xs : List Branch) → length xs < 1 → branches_text depth (codes "if") (branches_from b xs) ≡ []
unfolding items_text branches_from
no_branches_text depth b [] none = refl
no_branches_text depth b (x ∷ xs) none = absurd (omega arith)

-- the first branch and those after it
pub branches_of_first : (depth : ℕ) (b : List ℕ) (x : Branch) (xs : List Branch)
    → branches_text depth (codes "if") (branches_from b (x ∷ xs)) ≡ branch_text depth (codes "if") b x ++ flat_map (branch_text depth (codes "elif") b) xs
unfolding items_text branches_from
branches_of_first depth b x xs =
    let condition = block depth (codes "if") (items_text (depth + 1) (script_of b (out-Branch x).condition)) in
    let body = block depth (codes "then") (items_text (depth + 1) (script_of b (out-Branch x).body)) in
    ap (λ t. condition ++ (body ++ t)) (branches_flat depth b xs) ∙ sym (append_assoc condition body (flat_map (branch_text depth (codes "elif") b) xs))

pub clauses_flat : (depth : ℕ) (b : List ℕ) (xs : List Clause) → clauses_text depth (clauses_from b xs) ≡ flat_map (clause_text depth b) xs
unfolding items_text clauses_from
clauses_flat depth b [] = refl
clauses_flat depth b (x ∷ xs) =
    ap (clause_before depth b x) (clauses_flat depth b xs)
    ∙ sym (simp append_assoc refl)
  where
    clause_before : (depth : ℕ) (b : List ℕ) (x : Clause) → List ℕ → List ℕ
    clause_before depth b x t =
        tabs (depth + 1) ++ (40 ∷ separated (codes " | ") (map (word_of b) (out-Clause x).patterns)
        ++ (41 ∷ 10 ∷ (items_text (depth + 2) (script_of b (out-Clause x).body) ++ (tabs (depth + 2) ++ (clause_end_text (out-Clause x).end ++ 10 ∷ t)))))

-- Pipelines

pub pipe_text : (depth : ℕ) (b : List ℕ) (x : Pipe) → pipeline_text depth (pipeline_of b x) ≡ negation (out-Pipe x).negated ++ commands_text depth (commands_from b (out-Pipe x).parts)
unfolding items_text
pipe_text depth b x = ap (pipeline_text depth) (pipeline_out b x)

pub commands_of_first : (depth : ℕ) (b : List ℕ) (c : Command) (cs : List Command)
    → commands_text depth (commands_from b (c ∷ cs)) ≡ command_text depth (command_of b c) ++ piped_text depth (pending (command_of b c)) (commands_from b cs)
unfolding items_text commands_from
commands_of_first depth b c cs = refl

pub no_commands_text : (depth : ℕ) (b : List ℕ) (cs : List Command) → length cs < 1 → commands_text depth (commands_from b cs) ≡ []
unfolding items_text commands_from
no_commands_text depth b [] none = refl
no_commands_text depth b (c ∷ cs) none = absurd (omega arith)

pipe_pending : (b : List ℕ) (x : Pipe) → pipeline_pending (pipeline_of b x) ≡ last_pending [] (commands_from b (out-Pipe x).parts)
unfolding pipeline_pending
pipe_pending b x = ap pipeline_pending (pipeline_out b x)

-- what is pending after the last command, if there is one

last_is : (documents : List Document) (b : List ℕ) (cs : List Command) (c : Command) → Some c ≡ slice_get cs (length cs - 1) → last_pending documents (commands_from b cs) ≡ pending (command_of b c)
unfolding last_pending commands_from
last_is documents b [] c e = cc
last_is documents b (x ∷ []) c e = let same : c ≡ x = cc in ap (λ y. pending (command_of b y)) (sym same)
last_is documents b (x ∷ y ∷ cs) c e =
    let at : length (x ∷ y ∷ cs) - 1 ≡ suc (length (y ∷ cs) - 1) = omega arith in
    last_is (pending (command_of b x)) b (y ∷ cs) c (e ∙ ap (slice_get (x ∷ y ∷ cs)) at)

last_none : (documents : List Document) (b : List ℕ) (cs : List Command) → None ≡ slice_get cs (length cs - 1) → last_pending documents (commands_from b cs) ≡ documents
unfolding last_pending commands_from
last_none documents b [] e = refl
last_none documents b (x ∷ []) e = cc
last_none documents b (x ∷ y ∷ cs) e =
    let at : length (x ∷ y ∷ cs) - 1 ≡ suc (length (y ∷ cs) - 1) = omega arith in
    absurd (none_last x y cs (e ∙ ap (slice_get (x ∷ y ∷ cs)) at))
  where
    none_last : (x y : Command) (cs : List Command) → None ≡ slice_get (y ∷ cs) (length (y ∷ cs) - 1) → ⊥
    none_last x y [] e = cc
    none_last x y (z ∷ cs) e =
        let at : length (y ∷ z ∷ cs) - 1 ≡ suc (length (z ∷ cs) - 1) = omega arith in
        none_last y z cs (e ∙ ap (slice_get (y ∷ z ∷ cs)) at)

pub pipe_pending_last : (b : List ℕ) (x : Pipe) (c : Command) → Some c ≡ slice_get (out-Pipe x).parts (length (out-Pipe x).parts - 1) → pipeline_pending (pipeline_of b x) ≡ pending (command_of b c)
pipe_pending_last b x c e = pipe_pending b x ∙ last_is [] b (out-Pipe x).parts c e

pub pipe_pending_none : (b : List ℕ) (x : Pipe) → None ≡ slice_get (out-Pipe x).parts (length (out-Pipe x).parts - 1) → pipeline_pending (pipeline_of b x) ≡ []
pipe_pending_none b x e = pipe_pending b x ∙ last_none [] b (out-Pipe x).parts e

-- another command of a pipeline
pub piped : (depth : ℕ) (b : List ℕ) (documents : List Document) (cs : List Command) (i : ℕ) (c : Command) (out a d new all : List ℕ)
    → i < length cs → c ≡ get_or cs i c → out ++ piped_text depth documents (commands_from b (drop i cs)) ≡ all
    → a ≡ out ++ codes " |" → d ≡ a ++ join depth documents → new ≡ d ++ command_text depth (command_of b c)
    → new ++ piped_text depth (pending (command_of b c)) (commands_from b (drop (i + 1) cs)) ≡ all
unfolding items_text commands_from
piped depth b documents cs i c out a d new all inside is left first second third =
    let rest = drop (i + 1) cs in
    let here : drop i cs ≡ c ∷ rest = drop_more cs i c inside ∙ ap (λ x. x ∷ rest) (sym is) in
    let text = command_text depth (command_of b c) in
    let later = piped_text depth (pending (command_of b c)) (commands_from b rest) in
    ap (λ t. t ++ later) (joined out a new (codes " |") (join depth documents ++ text) first (joined a d new (join depth documents) text second third))
    ∙ append_assoc out (codes " |" ++ (join depth documents ++ text)) later
    ∙ ap (λ t. out ++ (codes " |" ++ t)) (append_assoc (join depth documents) text later)
    ∙ sym (ap (λ xs. out ++ piped_text depth documents (commands_from b xs)) here) ∙ left

-- another pipeline of an and-or list
pub linked : (depth : ℕ) (b : List ℕ) (documents : List Document) (background : Bool) (ls : List (Link × Pipe)) (i : ℕ) (l : Link × Pipe) (out a d new all : List ℕ)
    → i < length ls → l ≡ get_or ls i l → out ++ links_text depth documents (links_from b (drop i ls)) background ≡ all
    → a ≡ out ++ link_text l.0 → d ≡ a ++ join depth documents → new ≡ d ++ pipeline_text depth (pipeline_of b l.1)
    → new ++ links_text depth (pipeline_pending (pipeline_of b l.1)) (links_from b (drop (i + 1) ls)) background ≡ all
unfolding items_text links_from
linked depth b documents background ls i l out a d new all inside is left first second third =
    let rest = drop (i + 1) ls in
    let here : drop i ls ≡ l ∷ rest = drop_more ls i l inside ∙ ap (λ x. x ∷ rest) (sym is) in
    let text = pipeline_text depth (pipeline_of b l.1) in
    let later = links_text depth (pipeline_pending (pipeline_of b l.1)) (links_from b rest) background in
    ap (λ t. t ++ later) (joined out a new (link_text l.0) (join depth documents ++ text) first (joined a d new (join depth documents) text second third))
    ∙ append_assoc out (link_text l.0 ++ (join depth documents ++ text)) later
    ∙ ap (λ t. out ++ t) (append_assoc (link_text l.0) (join depth documents ++ text) later)
    ∙ ap (λ t. out ++ (link_text l.0 ++ t)) (append_assoc (join depth documents) text later)
    ∙ sym (ap (λ xs. out ++ links_text depth documents (links_from b xs) background) here) ∙ left

-- all commands of a pipeline are printed
pub piped_done : (depth : ℕ) (b : List ℕ) (documents : List Document) (cs : List Command) (i : ℕ) (new all : List ℕ) → length cs ≤ i
    → new ++ piped_text depth documents (commands_from b (drop i cs)) ≡ all → new ≡ all
unfolding items_text commands_from
piped_done depth b documents cs i new all over left = sym (append-nil new) ∙ sym (ap (λ xs. new ++ piped_text depth documents (commands_from b xs)) (drop_all i cs over)) ∙ left

-- all pipelines of an item, its `&` and its newline are printed
pub linked_done : {T E : Type 0} (r : Result T E) (depth : ℕ) (b : List ℕ) (documents : List Document) (background : Bool) (ls : List (Link × Pipe)) (i : ℕ) (mid a new all : List ℕ) → length ls ≤ i
    → mid ++ links_text depth documents (links_from b (drop i ls)) background ≡ all → a ≡ mid ++ background_text background → OnOk r (new ≡ a ++ line_end documents) → OnOk r (new ≡ all)
unfolding items_text links_from
linked_done r depth b documents background ls i mid a new all over left first =
    on_ok_weaker r (λ h. joined mid a new (background_text background) (line_end documents) first h
    ∙ sym (ap (λ xs. mid ++ links_text depth documents (links_from b xs) background) (drop_all i ls over)) ∙ left)

-- Commands

pub command_parts : (depth : ℕ) (b : List ℕ) (c : Command)
    → command_text depth (command_of b c) ≡ kind_text depth (kind_of b (out-Command c).kind) ++ flat_map (λ r. 32 ∷ redirect_text r) (map (redirect_of b) (out-Command c).redirects)
unfolding items_text
command_parts depth b c = ap (command_text depth) (command_out b c)

-- Here-documents

flat_map-append : {X A : Type 0} (f : X → List A) (xs ys : List X) → flat_map f (xs ++ ys) ≡ flat_map f xs ++ flat_map f ys
flat_map-append f [] ys = refl
flat_map-append f (x ∷ xs) ys = ap (λ zs. f x ++ zs) (flat_map-append f xs ys) ∙ sym (append_assoc (f x) (flat_map f xs) (flat_map f ys))

pending_joined : (ds es : List Document) → pending_text (ds ++ es) ≡ pending_text ds ++ pending_text es
pending_joined ds es = flat_map-append lines_of ds es

-- a newline before each, and one at the end, are one at the start, and one after each
lines_end : (ds : List Document) → pending_text ds ++ 10 ∷ [] ≡ line_end ds
lines_end [] = refl
lines_end (d ∷ ds) =
    ap (λ t. 10 ∷ t) (
    append_assoc (d.body ++ d.end) (pending_text ds) (10 ∷ []) ∙ ap (λ t. (d.body ++ d.end) ++ t) (lines_end ds)
    ∙ append_assoc d.body d.end (10 ∷ flat_map document_text ds)
    ∙ sym (append_assoc d.body (d.end ++ 10 ∷ []) (flat_map document_text ds) ∙ ap (λ t. d.body ++ t) (append_assoc d.end (10 ∷ []) (flat_map document_text ds)))
    )

line_ended : (out mid new : List ℕ) (ds : List Document) → mid ≡ out ++ pending_text ds → new ≡ mid ++ 10 ∷ [] → new ≡ out ++ line_end ds
line_ended out mid new ds first last = joined out mid new (pending_text ds) (10 ∷ []) first last ∙ ap (λ t. out ++ t) (lines_end ds)

pub ended_after : {T E : Type 0} (r : Result T E) (out mid new : List ℕ) (ds : List Document) → mid ≡ out ++ pending_text ds → OnOk r (new ≡ mid ++ 10 ∷ []) → OnOk r (new ≡ out ++ line_end ds)
ended_after r out mid new ds first = on_ok_weaker r (line_ended out mid new ds first)

-- what is pending after a command
pub pending_parts : (b : List ℕ) (c : Command)
    → pending_text (pending (command_of b c)) ≡ pending_text (kind_pending (kind_of b (out-Command c).kind)) ++ pending_text (flat_map redirect_documents (map (redirect_of b) (out-Command c).redirects))
unfolding pending
pending_parts b c =
    ap (λ x. pending_text (pending x)) (command_out b c) ∙ pending_joined (kind_pending (kind_of b (out-Command c).kind)) (flat_map redirect_documents (map (redirect_of b) (out-Command c).redirects))

-- nothing more
pub nothing : (out a : List ℕ) → a ≡ [] → out ≡ out ++ a
nothing out a none = sym (ap (λ t. out ++ t) none ∙ append-nil out)

-- what follows an operator
gap_joined : (depth : ℕ) (out mid new : List ℕ) (ds : List Document) → mid ≡ out ++ pending_text ds → new ≡ mid ++ gap depth (length mid == length out) → new ≡ out ++ join depth ds
gap_joined depth out mid new [] first last =
    let same : mid ≡ out = first ∙ append-nil out in
    last ∙ ap (λ t. mid ++ gap depth t) (eq-eqb (length mid) (length out) (ap length same)) ∙ ap (λ t. t ++ 32 ∷ []) same
gap_joined depth out mid new (d ∷ ds) first last =
    let more : length mid ≡ length out + length (pending_text (d ∷ ds)) = ap length first ∙ length-append out (pending_text (d ∷ ds)) in
    let apart : (length mid == length out) ≡ false = ne_eqb (length mid) (length out) (λ e. longer (length out) (length mid) (length ((d.body ++ d.end) ++ pending_text ds)) more e) in
    last ∙ ap (λ t. mid ++ gap depth t) apart ∙ ap (λ t. t ++ 10 ∷ tabs depth) first ∙ append_assoc out (pending_text (d ∷ ds)) (10 ∷ tabs depth)
    ∙ ap (λ t. out ++ t) (sym (append_assoc (pending_text (d ∷ ds)) (10 ∷ []) (tabs depth)) ∙ ap (λ t. t ++ tabs depth) (lines_end (d ∷ ds)))
  where
    longer : (n m k : ℕ) → m ≡ n + suc k → m ≡ n → ⊥
    longer n m k e f = omega arith

pub gap_after : {T E : Type 0} (r : Result T E) (depth before : ℕ) (out mid new : List ℕ) (ds : List Document) → before ≡ length out → mid ≡ out ++ pending_text ds
    → OnOk r (new ≡ mid ++ gap depth (length mid == before)) → OnOk r (new ≡ out ++ join depth ds)
gap_after r depth before out mid new ds is first =
    on_ok_weaker r (λ h. gap_joined depth out mid new ds first (h ∙ ap (λ n. mid ++ gap depth (length mid == n)) is))
