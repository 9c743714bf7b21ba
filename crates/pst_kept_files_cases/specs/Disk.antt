-- What a disk for tests shows.
use Rattle.std.specs.Prelude.{ℕ, Bool, List}
use Rattle.pst_kept_files_cases.specs.declared.disk.RecordedDisk.{RecordedDisk}

-- its member `seen`
abbrev pub disk_bytes : RecordedDisk → List ℕ
disk_bytes d = d.bytes.items

-- its member `is_usable`
abbrev pub disk_is_usable : RecordedDisk → Bool
disk_is_usable d = d.usable
