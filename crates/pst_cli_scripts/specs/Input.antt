-- An input: the text of a program, then a separator line, then the lines of a script.
use Rattle.std.specs.Prelude.{ℕ, ◌+◌, List, [], ◌∷◌, ◌++◌, length, Option, Some, None, if◌then◌else◌}
use Rattle.std.specs.Option.{option_map}
use Rattle.pst_io.specs.Text.{lines_of}
use Rattle.pst_script.specs.Words.{is_separator}

-- the bytes of the program's text, the separator line, and the lines of the script
pub record CutInput : Type 0 where
  pub text : List ℕ
  pub separator : List ℕ
  pub script : List (List ℕ)

-- with one more whole line in front of the program's text
abbrev pub behind_line : List ℕ → CutInput → CutInput
behind_line line c = record c { text = line ++ (10 ∷ c.text) }

-- The first separator line cuts; none where there is none.
abbrev pub cut : List (List ℕ) → Option CutInput
cut [] = None
cut (line ∷ lines) = if is_separator line then Some (record { text = []; separator = line; script = lines }) else option_map (behind_line line) (cut lines)

-- without a separator line all of the input is the program's text, and the script is empty
abbrev pub or_all : List ℕ → Option CutInput → CutInput
or_all input None = record { text = input; separator = []; script = [] }
or_all input (Some c) = c

-- how an input is cut
abbrev pub cut_of : List ℕ → CutInput
cut_of input = or_all input (cut (lines_of input))

-- the bytes of lines, with a line feed behind each
abbrev pub bytes_of : List (List ℕ) → ℕ
bytes_of [] = 0
bytes_of (line ∷ lines) = (length line + 1) + bytes_of lines

-- how many bytes there are up to the end of these first lines of the script: the text, the separator line and they
abbrev pub up_to : CutInput → List (List ℕ) → ℕ
up_to c given = (length c.text + (length c.separator + 1)) + bytes_of given
