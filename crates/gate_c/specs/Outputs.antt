-- What a call puts into the host's buffer, and the size that it gives.
use Rattle.std.specs.Prelude.{◌≡◌, ◌⊎◌, ℕ, ◌<◌, ◌++◌, Bool, true, false, List, length, drop}
use Rattle.gate_c.specs.declared.status.Status.TheVariants as statuses
use Rattle.gate_c.specs.Statuses.{code_of}

-- a text stands at the front of a buffer that has room for it, or the buffer is as before; the text's size is given in both cases
abbrev pub Copied : List ℕ → List ℕ → List ℕ → ℕ → Bool → Type 0
Copied text before after size true = (after ≡ text ++ drop (length text) before) × (size ≡ length text)
Copied text before after size false = (after ≡ before) × (length before < length text) × (size ≡ length text)

-- the text is in the buffer, with this status, or the buffer is too small for it
abbrev pub TextPut : ℕ → List ℕ → List ℕ → List ℕ → ℕ → ℕ → Type 0
TextPut done text before after size status =
    ((status ≡ done) × Copied text before after size true)
    ⊎ ((status ≡ code_of statuses.BufferTooSmall) × Copied text before after size false)

-- nothing is in the buffer, with this status
abbrev pub NothingPut : ℕ → List ℕ → List ℕ → ℕ → ℕ → Type 0
NothingPut expected before after size status = (status ≡ expected) × (after ≡ before) × (size ≡ 0)

-- memory ran out before anything was put into the buffer
abbrev pub OutOfMemory : List ℕ → List ℕ → ℕ → ℕ → Type 0
OutOfMemory before after size status = NothingPut (code_of statuses.OutOfMemory) before after size status
