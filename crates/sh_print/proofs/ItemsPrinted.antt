-- Printed items and lists are read, given that the pipelines in them are.
use Rattle.std.proofs.Common.{◌≡◌, ℕ, ◌+◌, Bool, true, false, Some, None, List, [], ◌∷◌, ◌++◌, length, drop, codes, refl, sym, ap, subst, ◌∙◌, append_assoc, append-nil, arith}
use Rattle.std.specs.List.{flat_map}
use Rattle.sh_tree.specs.declared.tree.Item.{Item}
use Rattle.sh_tree.specs.declared.tree.Link.{Link}
use Rattle.sh_tree.specs.declared.tree.Link.TheVariants as link
use Rattle.sh_tree.specs.declared.tree.Pipe.{Pipe}
use Rattle.sh_tree.specs.declared.token.command.Stage.TheVariants.{First}
use Rattle.sh_tree.specs.standard.language.Commands.{lead_at, begins_pipeline, is_newline_lead, is_bar, link_of, separator}
use Rattle.sh_tree.specs.standard.language.HereDocuments.{Mark}
use Rattle.sh_tree.specs.standard.language.Reading as r
use Rattle.sh_tree.specs.standard.language.Reading.{ReadsLinks, ReadsAndOr, ReadsItems, ReadsBreaks, lead_here, parted}
use Rattle.sh_tree.specs.standard.language.States.{State, Document}
use Rattle.sh_tree.specs.standard.language.Trees as tree
use Rattle.sh_print.specs.Bare as bare
use Rattle.sh_print.specs.Layout.{tabs, join, line_end, document_text, background_text, link_text, items_text, links_text, pipeline_text, pipeline_pending}
use Rattle.sh_print.specs.Lists.{links_from, items_from}
use Rattle.sh_print.specs.Trees.{pipeline_of}
use Rattle.sh_print.proofs.MadeLemmas.{item_made, script_made}
use Rattle.sh_print.proofs.PlaceLemmas.{front, front_blank, front_none, front_tabs, lead_there, off}
use Rattle.sh_print.proofs.OwnTokens.{Gap, line, newline_leads, background_leads, and_leads, or_leads}
use Rattle.sh_print.proofs.DocumentsPrinted.{place, so_far, Fits, Marked, no_mark, break_print}
use Rattle.sh_print.proofs.JoinsPrinted.{IsStop, join_gap, links_tail, begins_straight, join_print, end_print}
use Rattle.sh_print.proofs.ListsPrinted.{PrintsList, kept_both, fits_both}
use Rattle.sh_print.proofs.PipelinesPrinted.{IsPipeTail, PrintsPipeline}

-- the here-documents that wait after the further pipelines of an item
unfoldable pub links_pending : List bare.Document → bare.Links → List bare.Document
links_pending waiting bare.no_links = waiting
links_pending waiting (bare.more_links l x rest) = links_pending (pipeline_pending x) rest

-- `&&` or `||`
abbrev link_sign : Link → List ℕ
link_sign link.AndThen = codes "&&"
link_sign link.OrElse = codes "||"

record LinkStands (l : Link) (cs : List ℕ) : Type 0 where
  text_is : link_text l ++ cs ≡ 32 ∷ (link_sign l ++ cs)
  front_is : front (link_sign l ++ cs) ≡ link_sign l ++ cs
  long : length (link_sign l) ≡ 2
  is_link : link_of (lead_at (link_sign l ++ cs) First 0) ≡ Some l
  no_bar : is_bar (lead_at (link_sign l ++ cs) First 0) ≡ false

link_stands : (l : Link) (cs : List ℕ) → Gap cs → LinkStands l cs
unfolding link_of
link_stands link.AndThen cs gap =
    let is = and_leads First cs gap in
    record { text_is = refl; front_is = front_none 38 (38 ∷ cs) refl refl refl; long = refl; is_link = ap link_of is; no_bar = ap is_bar is }
link_stands link.OrElse cs gap =
    let is = or_leads First cs gap in
    record { text_is = refl; front_is = front_none 124 (124 ∷ cs) refl refl refl; long = refl; is_link = ap link_of is; no_bar = ap is_bar is }

-- the text after a pipeline that is the last of its item
record EndStands (background : Bool) (cs : List ℕ) : Type 0 where
  no_link : link_of (lead_at (front (background_text background ++ 10 ∷ cs)) First 0) ≡ None
  no_bar : is_bar (lead_at (front (background_text background ++ 10 ∷ cs)) First 0) ≡ false

end_stands : (background : Bool) (cs : List ℕ) → EndStands background cs
unfolding link_of
end_stands false cs =
    let is = ap (λ t. lead_at t First 0) (front_none 10 cs refl refl refl) ∙ newline_leads First cs in
    record { no_link = ap link_of is; no_bar = ap is_bar is }
end_stands true cs =
    let is = ap (λ t. lead_at t First 0) (front_blank 32 (38 ∷ 10 ∷ cs) refl ∙ front_none 38 (10 ∷ cs) refl refl refl) ∙ background_leads First (10 ∷ cs) line in
    record { no_link = ap link_of is; no_bar = ap is_bar is }

end_text : (background : Bool) (waiting : List bare.Document) (rest : List ℕ) → (background_text background ++ line_end waiting) ++ rest ≡ background_text background ++ (line_end waiting ++ rest)
end_text background waiting rest = append_assoc (background_text background) (line_end waiting) rest

more_text : (d : ℕ) (waiting : List bare.Document) (l : Link) (x : bare.Pipeline) (links : bare.Links) (background : Bool) (rest : List ℕ)
    → links_text d waiting (bare.more_links l x links) background ++ rest ≡ link_text l ++ (join d waiting ++ (pipeline_text d x ++ (links_text d (pipeline_pending x) links background ++ rest)))
unfolding items_text
more_text d waiting l x links background rest =
    append_assoc (link_text l) (join d waiting ++ (pipeline_text d x ++ links_text d (pipeline_pending x) links background)) rest
    ∙ ap (λ t. link_text l ++ t) (append_assoc (join d waiting) (pipeline_text d x ++ links_text d (pipeline_pending x) links background) rest
    ∙ ap (λ t. join d waiting ++ t) (append_assoc (pipeline_text d x) (links_text d (pipeline_pending x) links background) rest))

links_pipe_tail : (d : ℕ) (waiting : List bare.Document) (links : bare.Links) (background : Bool) (rest : List ℕ) → IsPipeTail (links_text d waiting links background ++ rest)
unfolding items_text
links_pipe_tail d waiting bare.no_links background rest = record {
  tail = links_tail d waiting bare.no_links background rest;
  no_bar = ap (λ t. is_bar (lead_at (front t) First 0)) (end_text background waiting rest) ∙ (end_stands background (flat_map document_text waiting ++ rest)).no_bar;
}
links_pipe_tail d waiting (bare.more_links l x links) background rest =
    let later = pipeline_text d x ++ (links_text d (pipeline_pending x) links background ++ rest) in
    let s = link_stands l (join d waiting ++ later) (join_gap d waiting later) in
    let here = more_text d waiting l x links background rest ∙ s.text_is in
    record {
      tail = links_tail d waiting (bare.more_links l x links) background rest;
      no_bar = ap (λ t. is_bar (lead_at t First 0)) (ap front here ∙ front_blank 32 (link_sign l ++ (join d waiting ++ later)) refl ∙ s.front_is) ∙ s.no_bar;
    }

module _ (b : List ℕ) where
  -- The further pipelines of an item

  pub record PrintedLinks (limit held m i n k : ℕ) (closed : Bool) (ms : List Mark) (ds : List Document) (waiting : List bare.Document) (links : bare.Links) (background : Bool) (rest : List ℕ) : Type 0 where
    pub at : ℕ
    pub count : ℕ
    pub ended : Bool
    pub marks : List Mark
    pub bodies : List Document
    pub met : List bare.Document
    pub left : ℕ
    pub marked : Marked b limit left marks (links_pending waiting links)
    pub total : count + left ≡ n + held + m
    pub kept : so_far b bodies (links_pending waiting links) ≡ so_far b ds waiting ++ met
    pub behind : drop at b ≡ front (background_text background ++ (line_end (links_pending waiting links) ++ rest))
    pub reads : (body : ℕ → Document) → Fits b body (length (so_far b ds waiting)) met
        → (xs : List (Link × Pipe)) × ReadsLinks limit b body (place i n k closed ms ds) (place at count k ended marks bodies) xs × (links_from b xs ≡ links)

  pub record PrintsLinks (limit k d m : ℕ) (links : bare.Links) : Type 0 where
    pub print : (i n : ℕ) (closed : Bool) (ms : List Mark) (ds : List Document) (waiting : List bare.Document) (background : Bool) (rest : List ℕ) (held : ℕ) → Marked b limit held ms waiting
        → drop i b ≡ front (links_text d waiting links background ++ rest) → PrintedLinks limit held m i n k closed ms ds waiting links background rest

  pub no_links_print : {limit k : ℕ} (d : ℕ) → PrintsLinks limit k d 0 bare.no_links
  unfolding items_text links_pending links_from
  no_links_print d = record {
    print = λ i n closed ms ds waiting background rest held marked e.
        let here = e ∙ ap front (end_text background waiting rest) in
        record {
          at = i;
          count = n;
          ended = closed;
          marks = ms;
          bodies = ds;
          met = [];
          left = held;
          marked = marked;
          total = (let none : n + held ≡ n + held + 0 = omega arith in none);
          kept = sym (append-nil (so_far b ds waiting));
          behind = here;
          reads = λ body f. ([], r.no_link (ap link_of (lead_there b First i _ here) ∙ (end_stands background (flat_map document_text waiting ++ rest)).no_link), refl);
        };
  }

  pub more_links_print : {limit k m o : ℕ} {x : bare.Pipeline} {links : bare.Links} (d : ℕ) (l : Link) → PrintsPipeline b limit k d m x → PrintsLinks limit k d o links → PrintsLinks limit k d (m + o) (bare.more_links l x links)
  unfolding links_pending links_from
  more_links_print {limit = limit} {k = k} {x = x} {links = links} d l one others = record {
    print = λ i n closed ms ds waiting background rest held marked e.
        let after = links_text d (pipeline_pending x) links background ++ rest in
        let text = pipeline_text d x ++ after in
        let inner = join d waiting ++ text in
        let s = link_stands l inner (join_gap d waiting text) in
        let here : drop i b ≡ link_sign l ++ inner = e ∙ ap front (more_text d waiting l x links background rest ∙ s.text_is) ∙ front_blank 32 (link_sign l ++ inner) refl ∙ s.front_is in
        let tail = links_pipe_tail d (pipeline_pending x) links background rest in
        let starts = one.starts after tail.tail in
        let q = join_print b marked (i + 2) n k closed ds d text (ap (λ m. drop (i + m) b) (sym s.long) ∙ off b i (link_sign l) inner here)
        (ap (λ t. is_newline_lead (lead_at t First 0)) starts.front_is ∙ begins_straight _ starts.begins) in
        let p = one.print q.at q.count closed q.bodies after (q.behind ∙ starts.front_is) tail in
        let two = others.print p.at p.count p.ended p.marks p.bodies (pipeline_pending x) background rest p.left p.marked p.behind in
        let first_kept = p.kept ∙ ap (λ t. t ++ p.met) q.kept in
        record {
          at = two.at;
          count = two.count;
          ended = two.ended;
          marks = two.marks;
          bodies = two.bodies;
          met = p.met ++ two.met;
          left = two.left;
          marked = two.marked;
          total = (let all = two.total in let second = p.total in let first = q.total in omega arith);
          kept = kept_both (so_far b ds waiting) (so_far b p.bodies (pipeline_pending x)) (so_far b two.bodies (links_pending (pipeline_pending x) links)) p.met two.met first_kept two.kept;
          behind = two.behind;
          reads = λ body f.
              let parts = fits_both b (so_far b ds waiting) (so_far b p.bodies (pipeline_pending x)) p.met two.met first_kept f in
              let y = p.reads body (subst (λ t. Fits b body (length t) p.met) (sym q.kept) parts.0) in
              let ys = two.reads body parts.1 in (
                (l, y.0) ∷ ys.0,
                r.more_links (ap link_of (lead_there b First i _ here) ∙ s.is_link) q.reads y.1 ys.1,
                ap (λ z. bare.more_links l z (links_from b ys.0)) y.2 ∙ ap (bare.more_links l x) ys.2,
              );
        };
  }

  -- Items

  -- an and-or list, what ends it, and the next token
  record PrintedItem (limit m i n k : ℕ) (closed : Bool) (ds : List Document) (first : bare.Pipeline) (links : bare.Links) (background : Bool) (rest : List ℕ) : Type 0 where
    at : ℕ
    count : ℕ
    ended : Bool
    bodies : List Document
    met : List bare.Document
    end : State
    kept : so_far b bodies [] ≡ so_far b ds [] ++ met
    behind : drop at b ≡ front rest
    separates : separator (lead_here b end) ≡ Some background
    breaks : ReadsBreaks limit b (parted b end) (place at count k ended [] bodies)
    to_end : rest ≡ [] → at ≡ length b
    total : count ≡ n + m
    reads : (body : ℕ → Document) → Fits b body (length (so_far b ds [])) met
        → (p : Pipe) × (ps : List (Link × Pipe)) × ReadsAndOr limit b body (place i n k closed [] ds) end (tree.and_or p ps) × (pipeline_of b p ≡ first) × (links_from b ps ≡ links)

  item_print : {limit k m o : ℕ} {first : bare.Pipeline} {links : bare.Links} (d : ℕ) → PrintsPipeline b limit k d m first → PrintsLinks limit k d o links → (i n : ℕ) (closed : Bool) (ds : List Document) (background : Bool) (rest : List ℕ)
      → drop i b ≡ pipeline_text d first ++ (links_text d (pipeline_pending first) links background ++ rest) → is_newline_lead (lead_at (front rest) First 0) ≡ false → PrintedItem limit (m + o) i n k closed ds first links background rest
  item_print {limit = limit} {k = k} {first = first} {links = links} d one others i n closed ds background rest e straight =
      let after = links_text d (pipeline_pending first) links background ++ rest in
      let p = one.print i n closed ds after e (links_pipe_tail d (pipeline_pending first) links background rest) in
      let two = others.print p.at p.count p.ended p.marks p.bodies (pipeline_pending first) background rest p.left p.marked p.behind in
      let q = end_print b two.marked two.at two.count k two.ended two.bodies background rest two.behind straight in
      record {
        at = q.at;
        count = q.count;
        ended = two.ended;
        bodies = q.bodies;
        met = p.met ++ two.met;
        end = place two.at two.count k two.ended two.marks two.bodies;
        kept = q.kept ∙ kept_both (so_far b ds []) (so_far b p.bodies (pipeline_pending first)) (so_far b two.bodies (links_pending (pipeline_pending first) links)) p.met two.met p.kept two.kept;
        behind = q.behind;
        separates = q.separates;
        breaks = q.reads;
        to_end = q.to_end;
        total = (let all = q.total in let second = two.total in let first = p.total in omega arith);
        reads = λ body f.
            let parts = fits_both b (so_far b ds []) (so_far b p.bodies (pipeline_pending first)) p.met two.met p.kept f in
            let y = p.reads body parts.0 in
            let ys = two.reads body parts.1 in
            (y.0, ys.0, r.linked y.1 ys.1, y.2, ys.2);
      }

  pub record PrintedItems (limit m i n k : ℕ) (closed : Bool) (ds : List Document) (items : bare.Items) (rest : List ℕ) : Type 0 where
    pub at : ℕ
    pub count : ℕ
    pub ended : Bool
    pub bodies : List Document
    pub met : List bare.Document
    pub kept : so_far b bodies [] ≡ so_far b ds [] ++ met
    pub behind : drop at b ≡ front rest
    pub to_end : rest ≡ [] → at ≡ length b
    pub total : count ≡ n + m
    pub reads : (body : ℕ → Document) → Fits b body (length (so_far b ds [])) met
        → (is : List Item) × ReadsItems limit b body (place i n k closed [] ds) (place at count k ended [] bodies) is × (items_from b is ≡ items)

  pub record PrintsItems (limit k d m : ℕ) (items : bare.Items) : Type 0 where
    pub begins : (rest : List ℕ) → begins_pipeline (lead_at (front (items_text d items ++ rest)) First 0) ≡ true
    pub print : (i n : ℕ) (closed : Bool) (ds : List Document) (rest : List ℕ) → drop i b ≡ front (items_text d items ++ rest) → IsStop rest → PrintedItems limit m i n k closed ds items rest

  item_text : (d : ℕ) (first : bare.Pipeline) (links : bare.Links) (background : Bool) (items : bare.Items) (rest : List ℕ)
      → items_text d (bare.more_items first links background items) ++ rest ≡ tabs d ++ (pipeline_text d first ++ (links_text d (pipeline_pending first) links background ++ (items_text d items ++ rest)))
  unfolding items_text
  item_text d first links background items rest =
      let ends = links_text d (pipeline_pending first) links background in
      append_assoc (tabs d) (pipeline_text d first ++ (ends ++ items_text d items)) rest
      ∙ ap (λ t. tabs d ++ t) (append_assoc (pipeline_text d first) (ends ++ items_text d items) rest ∙ ap (λ t. pipeline_text d first ++ t) (append_assoc ends (items_text d items) rest))

  -- the first item's text, at the token after its tabs
  item_front : {limit k m : ℕ} {first : bare.Pipeline} (d : ℕ) → PrintsPipeline b limit k d m first → (links : bare.Links) (background : Bool) (items : bare.Items) (rest : List ℕ)
      → front (items_text d (bare.more_items first links background items) ++ rest) ≡ pipeline_text d first ++ (links_text d (pipeline_pending first) links background ++ (items_text d items ++ rest))
  item_front {first = first} d one links background items rest =
      let text = pipeline_text d first ++ (links_text d (pipeline_pending first) links background ++ (items_text d items ++ rest)) in
      ap front (item_text d first links background items rest) ∙ front_tabs d text
      ∙ (one.starts (links_text d (pipeline_pending first) links background ++ (items_text d items ++ rest)) (links_tail d (pipeline_pending first) links background (items_text d items ++ rest))).front_is

  item_begins : {limit k m : ℕ} {first : bare.Pipeline} (d : ℕ) → PrintsPipeline b limit k d m first → (links : bare.Links) (background : Bool) (items : bare.Items) (rest : List ℕ)
      → begins_pipeline (lead_at (front (items_text d (bare.more_items first links background items) ++ rest)) First 0) ≡ true
  item_begins {first = first} d one links background items rest =
      ap (λ t. begins_pipeline (lead_at t First 0)) (item_front d one links background items rest)
      ∙ (one.starts (links_text d (pipeline_pending first) links background ++ (items_text d items ++ rest)) (links_tail d (pipeline_pending first) links background (items_text d items ++ rest))).begins

  pub last_item_prints : {limit k m o : ℕ} {first : bare.Pipeline} {links : bare.Links} (d : ℕ) (background : Bool) → PrintsPipeline b limit k d m first → PrintsLinks limit k d o links
      → PrintsItems limit k d (m + o) (bare.more_items first links background bare.no_items)
  unfolding items_text items_from
  last_item_prints {first = first} {links = links} d background one others = record {
    begins = item_begins d one links background bare.no_items;
    print = λ i n closed ds rest e stop.
        let p = item_print d one others i n closed ds background rest (e ∙ item_front d one links background bare.no_items rest) stop.straight in
        record {
          at = p.at;
          count = p.count;
          ended = p.ended;
          bodies = p.bodies;
          met = p.met;
          kept = p.kept;
          behind = p.behind;
          to_end = p.to_end;
          total = p.total;
          reads = λ body f. let x = p.reads body f in (
            tree.item (tree.and_or x.0 x.1) background ∷ [],
            r.ended_item x.2 p.separates p.breaks (ap begins_pipeline (lead_there b First p.at (front rest) p.behind) ∙ stop.none),
            item_made b x.0 x.1 background [] ∙ ap (λ y. bare.more_items y (links_from b x.1) background bare.no_items) x.3 ∙ ap (λ y. bare.more_items first y background bare.no_items) x.4,
          );
        };
  }

  pub more_items_print : {limit k m o later : ℕ} {first : bare.Pipeline} {links : bare.Links} {items : bare.Items} (d : ℕ) (background : Bool) → PrintsPipeline b limit k d m first → PrintsLinks limit k d o links → PrintsItems limit k d later items
      → PrintsItems limit k d (m + o + later) (bare.more_items first links background items)
  more_items_print {first = first} {links = links} {items = items} d background one others more = record {
    begins = item_begins d one links background items;
    print = λ i n closed ds rest e stop.
        let after = items_text d items ++ rest in
        let begins = more.begins rest in
        let p = item_print d one others i n closed ds background after (e ∙ item_front d one links background items rest) (begins_straight _ begins) in
        let two = more.print p.at p.count p.ended p.bodies rest p.behind stop in
        record {
          at = two.at;
          count = two.count;
          ended = two.ended;
          bodies = two.bodies;
          met = p.met ++ two.met;
          kept = kept_both (so_far b ds []) (so_far b p.bodies []) (so_far b two.bodies []) p.met two.met p.kept two.kept;
          behind = two.behind;
          to_end = two.to_end;
          total = (let all = two.total in let first = p.total in omega arith);
          reads = λ body f.
              let parts = fits_both b (so_far b ds []) (so_far b p.bodies []) p.met two.met p.kept f in
              let x = p.reads body parts.0 in
              let xs = two.reads body parts.1 in (
                tree.item (tree.and_or x.0 x.1) background ∷ xs.0,
                r.more_items x.2 p.separates p.breaks (ap begins_pipeline (lead_there b First p.at (front after) p.behind) ∙ begins) xs.1,
                item_made b x.0 x.1 background xs.0 ∙ ap (λ y. bare.more_items y (links_from b x.1) background (items_from b xs.0)) x.3
                    ∙ ap (λ y. bare.more_items first y background (items_from b xs.0)) x.4 ∙ ap (bare.more_items first links background) xs.2,
              );
        };
  }

  -- Lists

  pub list_prints : {limit k d m : ℕ} {items : bare.Items} → PrintsItems limit k d m items → PrintsList b limit k d m items
  list_prints {limit = limit} {k = k} {d = d} {items = items} printed = record {
    print = λ i n closed ds rest e stop.
        let text = items_text d items ++ rest in
        let begins = printed.begins rest in
        let q = break_print b limit i n k closed [] ds [] text no_mark e (begins_straight _ begins) in
        let p = printed.print q.at q.count closed q.bodies rest q.behind stop in
        record {
          at = p.at;
          count = p.count;
          ended = p.ended;
          bodies = p.bodies;
          met = p.met;
          kept = p.kept ∙ ap (λ t. t ++ p.met) q.kept;
          behind = p.behind;
          total = (let all = p.total in let first = q.total in omega arith);
          reads = λ body f.
              let is = p.reads body (subst (λ t. Fits b body (length t) p.met) (sym q.kept) f) in
              (tree.script is.0, r.list q.reads (ap begins_pipeline (lead_there b First q.at (front text) q.behind) ∙ begins) is.1, script_made b is.0 ∙ is.2);
        };
  }
