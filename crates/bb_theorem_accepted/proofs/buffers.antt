-- What is laid out on a buffer, what its ops do to frames, and what stays as it was.
-- For all folders below, and for `Laws`.

-- ops one after another, on frames and on buffers
pub mod StraightLemmas
pub mod EffectLemmas
pub mod BufferLemmas
pub mod PutLemmas
pub mod LayLemmas
-- what stays
pub mod GrownLemmas
pub mod QuietLemmas
pub mod StayLemmas
pub mod StillLemmas
