-- frames at the beginning of bytes
use Rattle.std.specs.Prelude.{ℕ, List, ◌++◌}
use Rattle.cck_digest.specs.Frames.{frame}

-- a frame of these bytes, and what is after it
abbrev pub frame_before : List ℕ × List ℕ → List ℕ
frame_before p = frame p.0 ++ p.1
