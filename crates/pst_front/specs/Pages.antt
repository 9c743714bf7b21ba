-- What is printed of a program.
use Rattle.std.specs.Prelude.{◌≡◌, ℕ, List}
use Rattle.pst_grammar.specs.Syntax as tree
use Rattle.pst_program.specs.Syntax.{Routines}
use Rattle.pst_typing.specs.Declarations.{NamedProgram}
use Rattle.pst_notation.specs.Canonical.{canonical}
use Rattle.pst_translation.specs.Compiled.{code_of}
use Rattle.pst_listing.specs.Listing.{listed}
use Rattle.pst_front.specs.Verdict.{Judged, Accepted}
use Rattle.pst_front.specs.declared.page.Page.{Page}
use Rattle.pst_front.specs.declared.page.Page.TheVariants.{Canonical, Listing}

-- a program without the names that only its text needs
abbrev pub routines_in : NamedProgram → Routines
routines_in program = record { shape = program.shape; procedures = program.procedures }

-- the canonical text of a program, or the listing of its code
abbrev pub page_text : Page → tree.ProgramText → NamedProgram → List ℕ
page_text Canonical syntax program = canonical syntax
page_text Listing syntax program = listed (code_of (routines_in program)) program.names

-- the text is accepted, and this is what is printed of its program
abbrev pub IsPage : Page → (text out : List ℕ) → Type 0
IsPage page text out = (syntax : tree.ProgramText) × (p : NamedProgram) × Judged text (Accepted syntax p) × (out ≡ page_text page syntax p)

-- the text is accepted with this typed program, and this is its canonical text
abbrev pub IsCanonical : (text : List ℕ) → NamedProgram → (out : List ℕ) → Type 0
IsCanonical text program out = (syntax : tree.ProgramText) × Judged text (Accepted syntax program) × (out ≡ canonical syntax)
