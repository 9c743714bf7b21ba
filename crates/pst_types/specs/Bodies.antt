-- Declarations whose bodies were taken out of them, into a list of their own.
use Rattle.std.specs.Prelude.{List, [], ◌∷◌, map}
use Rattle.pst_grammar.specs.Syntax as tree
use Rattle.pst_grammar.specs.View.{item_of, phrases_of}
use Rattle.pst_grammar.specs.declared.statement.Block.{Block}
use Rattle.pst_grammar.specs.declared.declaration.Declaration.{Declaration}

-- a declaration with this body, if it is a procedure; no other has a body
abbrev pub with_body : tree.Phrases → tree.Item → tree.Item
with_body body (tree.Record line x limit fields) = tree.Record line x limit fields
with_body body (tree.Root line x kind) = tree.Root line x kind
with_body body (tree.Procedure p) = tree.Procedure (record p { body = body })

-- the declarations with these bodies, from the first on
abbrev pub with_bodies : List tree.Phrases → List tree.Item → List tree.Item
with_bodies [] items = items
with_bodies (body ∷ bodies) [] = []
with_bodies (body ∷ bodies) (item ∷ items) = with_body body item ∷ with_bodies bodies items

-- a declaration of the code with this body
abbrev pub item_with : Block → Declaration → tree.Item
item_with body declaration = with_body (phrases_of body) (item_of declaration)

-- declarations of the code with these bodies, from the first on
abbrev pub items_with : List Block → List Declaration → List tree.Item
items_with bodies declarations = with_bodies (map phrases_of bodies) (map item_of declarations)
