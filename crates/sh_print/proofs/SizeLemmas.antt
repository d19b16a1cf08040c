-- A script that has an item has a text that is not empty.
use Rattle.std.proofs.Common.{ℕ, ◌<◌, Bool, List, [], ◌∷◌, ◌++◌, length, sym, subst, arith, length-append}
use Rattle.std.specs.List.{flat_map}
use Rattle.sh_tree.specs.declared.tree.AndOr.{out-AndOr}
use Rattle.sh_tree.specs.declared.tree.Item.{Item, out-Item}
use Rattle.sh_tree.specs.declared.tree.Script.{Script, out-Script}
use Rattle.sh_print.specs.Bare as bare
use Rattle.sh_print.specs.Bare.{Document, Links}
use Rattle.sh_print.specs.Layout.{tabs, line_end, join, background_text, link_text, items_text, pipeline_pending, links_text, pipeline_text, canon}
use Rattle.sh_print.specs.Lists.{links_from, item_text}
use Rattle.sh_print.specs.Trees.{pipeline_of}
use Rattle.sh_print.proofs.TextLemmas.{script_flat}

-- more before it, or after it
after_more : (a b : List ℕ) → 0 < length b → 0 < length (a ++ b)
after_more a b some = omega (arith, some, length-append a b)

before_more : (a b : List ℕ) → 0 < length a → 0 < length (a ++ b)
before_more a b some = omega (arith, some, length-append a b)

-- an item ends with a newline
links_some : (depth : ℕ) (ds : List Document) (l : Links) (background : Bool) → 0 < length (links_text depth ds l background)
unfolding items_text
links_some depth ds bare.no_links background = after_more (background_text background) (line_end ds) (omega arith)
links_some depth ds (bare.more_links l p rest) background =
    let left = links_text depth (pipeline_pending p) rest background in
    after_more (link_text l) (join depth ds ++ (pipeline_text depth p ++ left))
    (after_more (join depth ds) (pipeline_text depth p ++ left) (after_more (pipeline_text depth p) left (links_some depth (pipeline_pending p) rest background)))

item_some : (depth : ℕ) (b : List ℕ) (x : Item) → 0 < length (item_text depth b x)
item_some depth b x =
    let first = pipeline_of b (out-AndOr (out-Item x).list).first in
    let links = links_from b (out-AndOr (out-Item x).list).rest in
    let left = links_text depth (pipeline_pending first) links (out-Item x).background in
    after_more (tabs depth) (pipeline_text depth first ++ left) (after_more (pipeline_text depth first) left (links_some depth (pipeline_pending first) links (out-Item x).background))

items_some : (f : Item → List ℕ) (xs : List Item) → ((x : Item) → 0 < length (f x)) → 0 < length xs → 0 < length (flat_map f xs)
items_some f [] each some = absurd (omega arith)
items_some f (x ∷ xs) each some = before_more (f x) (flat_map f xs) (each x)

pub text_some : (b : List ℕ) (t : Script) → 0 < length (out-Script t).items → 0 < length (canon b t)
text_some b t some = subst (λ u. 0 < length u) (sym (script_flat 0 b t)) (items_some (item_text 0 b) (out-Script t).items (item_some 0 b) some)
