-- What the parser answers of a text, as its verdict.
use Rattle.std.proofs.Common.{ℕ, List}
use Rattle.std.specs.Prelude.{Ok, Err}
use Rattle.pst_lex.specs.Lexing.{HasLexing}
use Rattle.pst_grammar.specs.declared.declaration.Tree.{Tree}
use Rattle.pst_grammar.specs.View.{text_of}
use Rattle.pst_grammar.specs.Grammar.{HasTree}
use Rattle.pst_parse.specs.declared.fault.ParseFault.{ParseFault}
use Rattle.pst_parse.specs.declared.fault.ParseFault.TheVariants as grammatical
use Rattle.pst_parse.specs.Answers.{Found, FaultsUnexpected, FaultsTooDeep, OfItsTokens}
use Rattle.pst_front.specs.Reasons.{of_parsing}
use Rattle.pst_front.specs.Verdict.{IsNoProgram}

pub tree_found : (text : List ℕ) (tree : Tree) → HasLexing text → OfItsTokens text (Found 63 15 (Ok tree)) → HasTree text (text_of tree)
tree_found text tree (tokens, end, lexes) found = (record { list = tokens; end = end }, lexes, found (record { list = tokens; end = end }) lexes)

pub parsing_refused : (text : List ℕ) (f : ParseFault) → HasLexing text → OfItsTokens text (FaultsUnexpected 63 15 (Err f))
    → OfItsTokens text (FaultsTooDeep 63 15 (Err f)) → IsNoProgram text (of_parsing f)
parsing_refused text (grammatical.Unexpected line) (tokens, end, lexes) unexpected deep =
    (record { list = tokens; end = end }, lexes, unexpected (record { list = tokens; end = end }) lexes)
parsing_refused text (grammatical.TooDeep line) (tokens, end, lexes) unexpected deep = (record { list = tokens; end = end }, lexes, deep (record { list = tokens; end = end }) lexes)
parsing_refused text grammatical.Memory has unexpected deep = tt
