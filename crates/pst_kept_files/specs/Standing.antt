-- What files stand for. A file is a gate (1 where it counts), a generation and the image's length (8 bytes each, the highest first), the
-- image's digest (32 bytes), the image, and a text of groups.
use Rattle.std.specs.Prelude.{◌≡◌, ◌≢◌, ◌⊎◌, ⊤, ℕ, ◌+◌, ◌-◌, ◌<◌, ◌≤◌, Bool, ◌&&◌, nat_le, nat_lt, List, ◌∷◌, ◌++◌, length, take, drop, slice_index, replicate, Option, Some, None, if◌then◌else◌, ◌==◌}
use Rattle.std.specs.Int.{w64, from_be_bytes, to_be_bytes}
use Rattle.sha2.specs.Sha256.{sha256}
use Rattle.pst_kept_text.specs.Text.{behind}
use Rattle.pst_kept_text.specs.Written.{groups_in}
use Rattle.pst_kept_files.specs.declared.role.Role.{Role}
use Rattle.pst_kept_files.specs.declared.role.Role.TheVariants.{First, Second}

pub record Standing : Type 0 where
  pub generation : ℕ
  pub digest : List ℕ
  pub image : List ℕ
  -- the groups
  pub text : List ℕ
  -- what stands behind them
  pub rest : List ℕ

unfoldable pub number : List ℕ → ℕ
number bytes = from_be_bytes w64 bytes

-- where the text begins
abbrev pub base_of : List ℕ → ℕ
base_of file = 49 + number (take 8 (drop 9 file))

abbrev pub is_open : List ℕ → Bool
is_open file = (slice_index file 0 == 1) && nat_le (base_of file) (length file)

abbrev pub content : List ℕ → Standing
content file = record {
  generation = number (take 8 (drop 1 file));
  digest = take 32 (drop 17 file);
  image = take (base_of file - 49) (drop 49 file);
  text = groups_in (base_of file) file;
  rest = behind (drop (base_of file) file);
}

-- what one file stands for
abbrev pub standing : List ℕ → Option Standing
standing file = if is_open file then Some (content file) else None

-- of two the one of the later generation counts
abbrev pub later_of : Option Standing → Option Standing → Option Standing
later_of None b = b
later_of (Some a) None = Some a
later_of (Some a) (Some b) =
    if nat_lt a.generation b.generation then Some b
    else if nat_lt b.generation a.generation then Some a
    else None

-- what two files stand for
abbrev pub stands : List ℕ → List ℕ → Option Standing
stands one two = later_of (standing one) (standing two)

-- the generation of a file that counts
abbrev pub generation_in : List ℕ → Option ℕ
generation_in file = if is_open file then Some (number (take 8 (drop 1 file))) else None

-- which of two files counts, by their generations
abbrev pub role_of : Option ℕ → Option ℕ → Option Role
role_of None None = None
role_of (Some a) None = Some First
role_of None (Some b) = Some Second
role_of (Some a) (Some b) = if nat_lt a b then Some Second else if nat_lt b a then Some First else None

abbrev pub IsOlder : ℕ → Option Standing → Type 0
IsOlder generation None = ⊤
IsOlder generation (Some s) = s.generation < generation

-- what stands between the gate and the image
abbrev pub head_of : ℕ → ℕ → List ℕ → List ℕ
head_of generation size digest = to_be_bytes w64 generation ++ to_be_bytes w64 size ++ digest

-- the zeros behind the image of a file that was written anew
unfoldable pub spare : List ℕ
spare = replicate 262144 0

-- what stands behind its gate
abbrev pub body_of : List ℕ → List ℕ → List ℕ
body_of head image = head ++ image ++ spare

-- the same, of a file with this image and no commands
abbrev pub new_body : ℕ → List ℕ → List ℕ
new_body generation image = body_of (head_of generation (length image) (sha256 image)) image

-- what the writing of a whole file leaves at any moment: the old file, one that doesn't count, or the new one
abbrev pub IsStage : List ℕ → List ℕ → List ℕ → Type 0
IsStage old body c = (c ≡ old) ⊎ ((slice_index c 0 ≢ 1) ⊎ ((length c ≤ 1) ⊎ (c ≡ 1 ∷ body)))
