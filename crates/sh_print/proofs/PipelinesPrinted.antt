-- Printed pipelines are read, given that the commands in them are.
use Rattle.std.proofs.Common.{◌≡◌, ℕ, ◌+◌, Bool, true, false, List, [], ◌∷◌, ◌++◌, length, drop, codes, refl, sym, ap, subst, ◌∙◌, append_assoc, append-nil, arith}
use Rattle.sh_tree.specs.declared.tree.Command.{Command}
use Rattle.sh_tree.specs.declared.tree.Pipe.{Pipe}
use Rattle.sh_tree.specs.declared.token.command.Reserved.TheVariants as word
use Rattle.sh_tree.specs.declared.token.command.Stage.TheVariants.{First}
use Rattle.sh_tree.specs.standard.language.Commands.{lead_at, blanks, begins_pipeline, begins_command, is_newline_lead, is_bar}
use Rattle.sh_tree.specs.standard.language.HereDocuments.{Mark}
use Rattle.sh_tree.specs.standard.language.Reading as r
use Rattle.sh_tree.specs.standard.language.Reading.{ReadsCommands, ReadsPipeline}
use Rattle.sh_tree.specs.standard.language.States.{Document}
use Rattle.sh_tree.specs.standard.language.Trees as tree
use Rattle.sh_print.specs.Bare as bare
use Rattle.sh_print.specs.Layout.{join, items_text, pipeline_text, commands_text, piped_text, command_text, pending, last_pending, pipeline_pending}
use Rattle.sh_print.specs.Lists.{commands_from}
use Rattle.sh_print.specs.Trees.{pipeline_of}
use Rattle.sh_print.proofs.MadeLemmas.{pipe_made}
use Rattle.sh_print.proofs.PlaceLemmas.{front, front_blank, front_none, fronted, lead_there, one_off}
use Rattle.sh_print.proofs.OwnTokens.{blank, reserved_text, reserved_leads, bar_leads}
use Rattle.sh_print.proofs.DocumentsPrinted.{place, so_far, Fits, Marked}
use Rattle.sh_print.proofs.ElementsPrinted.{IsTail}
use Rattle.sh_print.proofs.JoinsPrinted.{join_gap, bar_tail, join_print}
use Rattle.sh_print.proofs.ListsPrinted.{kept_both, fits_both}
use Rattle.sh_print.proofs.CommandsPrinted.{CommandStarts, command_straight, command_pipeline, PrintsCommand}

-- after a pipeline: what follows a command, and no `|`
pub record IsPipeTail (rest : List ℕ) : Type 0 where
  pub tail : IsTail rest
  pub no_bar : is_bar (lead_at (front rest) First 0) ≡ false

module _ (b : List ℕ) where
  -- The commands of a pipeline

  pub record PrintedCommands (limit m i n k : ℕ) (closed : Bool) (ds : List Document) (cs : bare.Commands) (rest : List ℕ) : Type 0 where
    pub at : ℕ
    pub count : ℕ
    pub ended : Bool
    pub marks : List Mark
    pub bodies : List Document
    pub met : List bare.Document
    pub left : ℕ
    pub marked : Marked b limit left marks (last_pending [] cs)
    pub total : count + left ≡ n + m
    pub kept : so_far b bodies (last_pending [] cs) ≡ so_far b ds [] ++ met
    pub behind : drop at b ≡ front rest
    pub reads : (body : ℕ → Document) → Fits b body (length (so_far b ds [])) met
        → (xs : List Command) × ReadsCommands limit b body (place i n k closed [] ds) (place at count k ended marks bodies) xs × (commands_from b xs ≡ cs)

  pub record PrintsCommands (limit k d m : ℕ) (cs : bare.Commands) : Type 0 where
    pub starts : (rest : List ℕ) → IsTail rest → CommandStarts (commands_text d cs ++ rest)
    -- after another command
    pub piped : (waiting : List bare.Document) → piped_text d waiting cs ≡ codes " |" ++ (join d waiting ++ commands_text d cs)
    pub last : (waiting : List bare.Document) → last_pending waiting cs ≡ last_pending [] cs
    pub print : (i n : ℕ) (closed : Bool) (ds : List Document) (rest : List ℕ) → drop i b ≡ commands_text d cs ++ rest → IsPipeTail rest → PrintedCommands limit m i n k closed ds cs rest

  pub last_prints : {limit k m : ℕ} {c : bare.Command} (d : ℕ) → PrintsCommand b limit k d m c → PrintsCommands limit k d m (bare.more_commands c bare.no_commands)
  unfolding items_text last_pending commands_from
  last_prints {c = c} d one =
      let same : (rest : List ℕ) → commands_text d (bare.more_commands c bare.no_commands) ++ rest ≡ command_text d c ++ rest = λ rest. ap (λ t. t ++ rest) (append-nil (command_text d c)) in
      record {
        starts = λ rest tail. subst CommandStarts (sym (same rest)) (one.starts rest tail);
        piped = λ waiting. refl;
        last = λ waiting. refl;
        print = λ i n closed ds rest e tail.
            let p = one.print i n closed ds rest (e ∙ same rest) tail.tail in
            record {
              at = p.at;
              count = p.count;
              ended = p.ended;
              marks = p.marks;
              bodies = p.bodies;
              met = p.met;
              left = p.left;
              marked = p.marked;
              total = p.total;
              kept = p.kept;
              behind = p.behind;
              reads = λ body f. let x = p.reads body f in
                  (x.0 ∷ [], r.last_command x.1 (ap is_bar (lead_there b First p.at (front rest) p.behind) ∙ tail.no_bar), ap (λ y. bare.more_commands y bare.no_commands) x.2);
            };
      }

  pub more_prints : {limit k m o : ℕ} {c : bare.Command} {cs : bare.Commands} (d : ℕ) → PrintsCommand b limit k d m c → PrintsCommands limit k d o cs → PrintsCommands limit k d (m + o) (bare.more_commands c cs)
  unfolding items_text last_pending commands_from
  more_prints {limit = limit} {k = k} {c = c} {cs = cs} d one others =
      let later : List ℕ → List ℕ = λ rest. 32 ∷ 124 ∷ (join d (pending c) ++ (commands_text d cs ++ rest)) in
      let same : (rest : List ℕ) → commands_text d (bare.more_commands c cs) ++ rest ≡ command_text d c ++ later rest = λ rest.
      append_assoc (command_text d c) (piped_text d (pending c) cs) rest
      ∙ ap (λ t. command_text d c ++ t) (ap (λ t. t ++ rest) (others.piped (pending c)) ∙ ap (λ t. 32 ∷ 124 ∷ t) (append_assoc (join d (pending c)) (commands_text d cs) rest)) in
      let bar_behind : (rest : List ℕ) → IsTail (later rest) = λ rest. bar_tail (join d (pending c) ++ (commands_text d cs ++ rest)) (join_gap d (pending c) (commands_text d cs ++ rest)) in
      record {
        starts = λ rest tail. subst CommandStarts (sym (same rest)) (one.starts (later rest) (bar_behind rest));
        piped = λ waiting. refl;
        last = λ waiting. refl;
        print = λ i n closed ds rest e tail.
            let text = commands_text d cs ++ rest in
            let starts = others.starts rest tail.tail in
            let p = one.print i n closed ds (later rest) (e ∙ same rest) (bar_behind rest) in
            let inner = join d (pending c) ++ text in
            let there : drop p.at b ≡ 124 ∷ inner = p.behind ∙ front_blank 32 (124 ∷ inner) refl ∙ front_none 124 inner refl refl refl in
            let bar_is = lead_there b First p.at (124 ∷ inner) there ∙ bar_leads First inner (join_gap d (pending c) text) in
            let q = join_print b p.marked (p.at + 1) p.count k p.ended p.bodies d text (one_off b p.at there)
            (ap (λ t. is_newline_lead (lead_at t First 0)) starts.front_is ∙ command_straight _ starts.begins) in
            let two = others.print q.at q.count p.ended q.bodies rest (q.behind ∙ starts.front_is) tail in
            let first_kept = q.kept ∙ p.kept in
            record {
              at = two.at;
              count = two.count;
              ended = two.ended;
              marks = two.marks;
              bodies = two.bodies;
              met = p.met ++ two.met;
              left = two.left;
              marked = subst (λ x. Marked b limit two.left two.marks x) (sym (others.last (pending c))) two.marked;
              total = (let all = two.total in let second = q.total in let first = p.total in omega arith);
              kept = ap (so_far b two.bodies) (others.last (pending c)) ∙ kept_both (so_far b ds []) (so_far b q.bodies []) (so_far b two.bodies (last_pending [] cs)) p.met two.met first_kept two.kept;
              behind = two.behind;
              reads = λ body f.
                  let parts = fits_both b (so_far b ds []) (so_far b q.bodies []) p.met two.met first_kept f in
                  let x = p.reads body parts.0 in
                  let xs = two.reads body parts.1 in (
                    x.0 ∷ xs.0,
                    r.more_commands x.1 (ap is_bar bar_is) q.reads xs.1,
                    ap (λ y. bare.more_commands y (commands_from b xs.0)) x.2 ∙ ap (bare.more_commands c) xs.2,
                  );
            };
      }

  -- Pipelines

  pub record PrintedPipeline (limit m i n k : ℕ) (closed : Bool) (ds : List Document) (x : bare.Pipeline) (rest : List ℕ) : Type 0 where
    pub at : ℕ
    pub count : ℕ
    pub ended : Bool
    pub marks : List Mark
    pub bodies : List Document
    pub met : List bare.Document
    pub left : ℕ
    pub marked : Marked b limit left marks (pipeline_pending x)
    pub total : count + left ≡ n + m
    pub kept : so_far b bodies (pipeline_pending x) ≡ so_far b ds [] ++ met
    pub behind : drop at b ≡ front rest
    pub reads : (body : ℕ → Document) → Fits b body (length (so_far b ds [])) met
        → (y : Pipe) × ReadsPipeline limit b body (place i n k closed [] ds) (place at count k ended marks bodies) y × (pipeline_of b y ≡ x)

  -- a token is at the start of the pipeline's text, and it begins a pipeline
  pub record PipelineStarts (cs : List ℕ) : Type 0 where
    pub front_is : front cs ≡ cs
    pub begins : begins_pipeline (lead_at cs First 0) ≡ true

  pub record PrintsPipeline (limit k d m : ℕ) (x : bare.Pipeline) : Type 0 where
    pub starts : (rest : List ℕ) → IsTail rest → PipelineStarts (pipeline_text d x ++ rest)
    pub print : (i n : ℕ) (closed : Bool) (ds : List Document) (rest : List ℕ) → drop i b ≡ pipeline_text d x ++ rest → IsPipeTail rest → PrintedPipeline limit m i n k closed ds x rest

  pub pipeline_prints : {limit k m : ℕ} {cs : bare.Commands} (d : ℕ) (negated : Bool) → PrintsCommands limit k d m cs → PrintsPipeline limit k d m (bare.pipeline negated cs)
  unfolding items_text reserved_text pipeline_pending begins_pipeline
  pipeline_prints {cs = cs} d true commands = record {
    starts = λ rest tail. record {
      front_is = front_none 33 (32 ∷ (commands_text d cs ++ rest)) refl refl refl;
      begins = ap begins_pipeline (reserved_leads word.Bang (32 ∷ (commands_text d cs ++ rest)) blank);
    };
    print = λ i n closed ds rest e tail.
        let text = commands_text d cs ++ rest in
        let starts = commands.starts rest tail.tail in
        let p = commands.print (blanks false b (i + 1)) n closed ds rest (fronted b (i + 1) (32 ∷ text) (one_off b i e) ∙ front_blank 32 text refl ∙ starts.front_is) tail in
        record {
          at = p.at;
          count = p.count;
          ended = p.ended;
          marks = p.marks;
          bodies = p.bodies;
          met = p.met;
          left = p.left;
          marked = p.marked;
          total = p.total;
          kept = p.kept;
          behind = p.behind;
          reads = λ body f. let xs = p.reads body f in
              (tree.pipe true xs.0, r.negated (lead_there b First i _ e ∙ reserved_leads word.Bang (32 ∷ text) blank) xs.1, pipe_made b true xs.0 ∙ ap (bare.pipeline true) xs.2);
        };
  }
  pipeline_prints {cs = cs} d false commands = record {
    starts = λ rest tail. let s = commands.starts rest tail in record { front_is = s.front_is; begins = command_pipeline _ s.begins };
    print = λ i n closed ds rest e tail.
        let starts = commands.starts rest tail.tail in
        let p = commands.print i n closed ds rest e tail in
        record {
          at = p.at;
          count = p.count;
          ended = p.ended;
          marks = p.marks;
          bodies = p.bodies;
          met = p.met;
          left = p.left;
          marked = p.marked;
          total = p.total;
          kept = p.kept;
          behind = p.behind;
          reads = λ body f. let xs = p.reads body f in
              (tree.pipe false xs.0, r.straight (ap begins_command (lead_there b First i _ e) ∙ starts.begins) xs.1, pipe_made b false xs.0 ∙ ap (bare.pipeline false) xs.2);
        };
  }
