use Rattle.std.proofs.Common.{◌≡◌, ℕ, ◌+◌, ◌-◌, List, ◌∷◌, length, take, drop, ap, sym, ◌∙◌, arith}
use Rattle.std.proofs.lemmas.List.{take_all, length-drop}
use Rattle.pst_questions.specs.Path.{names_of}
use Rattle.pst_questions.proofs.PathLemmas.{names_whole, names_cut}
use Rattle.pst_questions.proofs.fields.split_name.Goals as goal

pub returns-in-None : goal.returns-in-None
returns-in-None c = names_whole c.args.path.now (sym c.first_dot.ensures ∙ c.in-None.is)

pub returns-in-Some : goal.returns-in-Some
returns-in-Some c =
    let path = c.args.path.now in
    let dot : ℕ = c.in-Some.dot in
    let tail : take (length path - (dot + 1)) (drop (dot + 1) path) ≡ drop (dot + 1) path = take_all (length path - (dot + 1)) (drop (dot + 1) path) (omega (arith, length-drop (dot + 1) path)) in
    names_cut path dot (sym c.first_dot.ensures ∙ c.in-Some.is) ∙ ap (λ (behind : List ℕ). take dot path ∷ names_of behind) (sym tail)
