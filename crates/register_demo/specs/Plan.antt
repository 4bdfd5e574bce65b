-- The blocks of a made-up register, and the uploads that bring them: this project's profile.
use Rattle.std.specs.Prelude.{ℕ, ◌+◌, ◌-◌, ◌*◌, ◌/◌, ◌%◌, ◌==◌, max, min, if◌then◌else◌}
use Rattle.register_demo.specs.declared.plan.Group.{Group}
use Rattle.register_demo.specs.declared.plan.Group.TheVariants.{Records, Relationships}

-- A register of n records has blocks of 100 records, the last of which may be shorter.
abbrev pub block_count : ℕ → ℕ
block_count n = (n + 99) / 100

-- The number of the first item of a block. There is a record for each number, and a relationship that starts at each
-- record except that of number 1.
abbrev pub first_item : Group → ℕ → ℕ
first_item Records block = 100 * (block - 1) + 1
first_item Relationships block = max 2 (100 * (block - 1) + 1)

-- the number of the last item of a block
abbrev pub last_item : ℕ → ℕ → ℕ
last_item n block = min (100 * block) n

-- how many of the blocks from 1 to this one have the issuer of this one
abbrev pub turn : ℕ → ℕ
turn block = (block + 1) / 2

-- how many blocks the issuer of a block has in all
abbrev pub turns : ℕ → ℕ → ℕ
turns n block = if block % 2 == 1 then (block_count n + 1) / 2 else block_count n / 2

-- The number of the upload of a block among those of its issuer, which sends the records of all its blocks before the
-- relationships.
abbrev pub upload_number : Group → ℕ → ℕ → ℕ
upload_number Records n block = turn block
upload_number Relationships n block = turns n block + turn block
