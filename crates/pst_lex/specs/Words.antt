-- What tokens are, and how they are spelled.
use Rattle.std.specs.Prelude.{◌≡◌, ℕ, ℤ, List, [], ◌∷◌, map, All, Option, Some, None}
use Rattle.std.specs.Fmt.{signed_decimal}
use Rattle.pst_base.specs.Words as language
use Rattle.pst_lex.specs.declared.types.TokenKind.{TokenKind}
use Rattle.pst_lex.specs.declared.types.TokenKind.TheVariants as kind
use Rattle.pst_lex.specs.declared.words.Mark.{Mark}
use Rattle.pst_lex.specs.declared.words.Mark.TheVariants.{Record, Val, Ptr, Root, Proc, Query, Var, New, Call, Print, If, Else, While, Return, Null, And, Or, Not, Int, OpenBrace, CloseBrace, OpenParen, CloseParen, Semicolon, Colon, Comma, Dot, Assign, Equal, NotEqual, Less, LessEqual, Greater, GreaterEqual, Plus, Minus, Star, Slash, Percent}

-- A token, as readers and printers of programs speak of it: a name by its bytes, a number, or a keyword or symbol.
pub data Word : Type 0 where
  Name : List ℕ → Word
  Number : ℤ → Word
  Fixed : Mark → Word

-- the keywords, in their order
abbrev pub keywords : List Mark
keywords = Record ∷ Val ∷ Ptr ∷ Root ∷ Proc ∷ Query ∷ Var ∷ New ∷ Call ∷ Print ∷ If ∷ Else ∷ While ∷ Return ∷ Null ∷ And ∷ Or ∷ Not ∷ Int ∷ []

abbrev pub word_of : TokenKind → Word
word_of (kind.Name x) = Name x
word_of (kind.Number v) = Number v
word_of (kind.Mark m) = Fixed m

-- how a keyword or symbol is spelled
abbrev pub mark_text : Mark → List ℕ
mark_text Record = 114 ∷ 101 ∷ 99 ∷ 111 ∷ 114 ∷ 100 ∷ []  -- record
mark_text Val = 118 ∷ 97 ∷ 108 ∷ []  -- val
mark_text Ptr = 112 ∷ 116 ∷ 114 ∷ []  -- ptr
mark_text Root = 114 ∷ 111 ∷ 111 ∷ 116 ∷ []  -- root
mark_text Proc = 112 ∷ 114 ∷ 111 ∷ 99 ∷ []  -- proc
mark_text Query = 113 ∷ 117 ∷ 101 ∷ 114 ∷ 121 ∷ []  -- query
mark_text Var = 118 ∷ 97 ∷ 114 ∷ []  -- var
mark_text New = 110 ∷ 101 ∷ 119 ∷ []  -- new
mark_text Call = 99 ∷ 97 ∷ 108 ∷ 108 ∷ []  -- call
mark_text Print = 112 ∷ 114 ∷ 105 ∷ 110 ∷ 116 ∷ []  -- print
mark_text If = 105 ∷ 102 ∷ []  -- if
mark_text Else = 101 ∷ 108 ∷ 115 ∷ 101 ∷ []  -- else
mark_text While = 119 ∷ 104 ∷ 105 ∷ 108 ∷ 101 ∷ []  -- while
mark_text Return = 114 ∷ 101 ∷ 116 ∷ 117 ∷ 114 ∷ 110 ∷ []  -- return
mark_text Null = 110 ∷ 117 ∷ 108 ∷ 108 ∷ []  -- null
mark_text And = 97 ∷ 110 ∷ 100 ∷ []  -- and
mark_text Or = 111 ∷ 114 ∷ []  -- or
mark_text Not = 110 ∷ 111 ∷ 116 ∷ []  -- not
mark_text Int = 105 ∷ 110 ∷ 116 ∷ []  -- int
mark_text OpenBrace = 123 ∷ []  -- {
mark_text CloseBrace = 125 ∷ []  -- }
mark_text OpenParen = 40 ∷ []  -- (
mark_text CloseParen = 41 ∷ []  -- )
mark_text Semicolon = 59 ∷ []  -- ;
mark_text Colon = 58 ∷ []  -- :
mark_text Comma = 44 ∷ []  -- ,
mark_text Dot = 46 ∷ []  -- .
mark_text Assign = 61 ∷ []  -- =
mark_text Equal = 61 ∷ 61 ∷ []  -- ==
mark_text NotEqual = 33 ∷ 61 ∷ []  -- !=
mark_text Less = 60 ∷ []  -- <
mark_text LessEqual = 60 ∷ 61 ∷ []  -- <=
mark_text Greater = 62 ∷ []  -- >
mark_text GreaterEqual = 62 ∷ 61 ∷ []  -- >=
mark_text Plus = 43 ∷ []  -- +
mark_text Minus = 45 ∷ []  -- -
mark_text Star = 42 ∷ []  -- *
mark_text Slash = 47 ∷ []  -- /
mark_text Percent = 37 ∷ []  -- %

-- how a token is spelled
abbrev pub spelling : Word → List ℕ
spelling (Name x) = x
spelling (Number v) = signed_decimal v
spelling (Fixed m) = mark_text m

-- the keyword that is spelled so, if one is
abbrev pub IsKeyword : Option Mark → List ℕ → Type 0
IsKeyword (Some m) word = word ≡ mark_text m
IsKeyword None word = All (λ m. word ≡ mark_text m → ⊥) keywords

-- the keywords are spelled as the language's own words
abbrev pub KeywordsAreThose : Type 0
KeywordsAreThose = map mark_text keywords ≡ language.keywords
