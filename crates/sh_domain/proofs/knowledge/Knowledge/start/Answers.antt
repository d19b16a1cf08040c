use Rattle.std.proofs.Common.{◌&&◌, ◌||◌, List, [], ◌∷◌, sym, ◌∙◌, ap, map}
use Rattle.std.specs.Prelude.{codes}
use Rattle.std.specs.Str.{bytes_eq}
use Rattle.sh_tree.specs.standard.program.Syntax.{Text}
use Rattle.sh_runs.specs.standard.runs.Environment.{is_one_of}
use Rattle.sh_domain.specs.Facts.{start_facts}
use Rattle.sh_domain.specs.Knowledge.{among, contains, knowledge_facts}
use Rattle.sh_domain.proofs.KnowledgeLemmas.{and_none, started}
use Rattle.sh_domain.proofs.MeetLemmas.{known_same}
use Rattle.sh_domain.proofs.knowledge.Knowledge.start.Goals as goal

pub returns : goal.returns
unfolding knowledge_facts among start_facts
returns c =
    let names = c.args.names.now in
    known_same _ _ _ _ _ _
    (λ t.
    let i = is_one_of names t in
    started i (contains names c.new-vars.result t) (bytes_eq (codes "IFS") t) (bytes_eq (codes "OPTIND") t) (bytes_eq (codes "PPID") t) (is_one_of (map (λ v. v.items) c.names.result.now) t)
    (contains names c.add_name.new.self t) (contains names c.add_name-2.new.self t) (contains names c.add_name-3.new.self t) (contains names c.add_names.new.self t)
    (c.new-vars.ensures.names names t) (c.add_name.ensures t) (c.add_name-2.ensures t) (c.add_name-3.ensures t) (c.add_names.ensures t)
    ∙ ap (λ (ns : List Text). i && (is_one_of (codes "IFS" ∷ codes "OPTIND" ∷ codes "PPID" ∷ []) t || is_one_of ns t)) c.names.ensures.texts)
    (λ t. c.new.ensures.names names t ∙ sym (and_none (is_one_of names t)))
    c.args-2.ensures
