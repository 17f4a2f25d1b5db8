-- Request 2, "A slot in daily use that never clears". To believe: Swept. To read: proofs/Promise.
pub mod Swept
pub mod StepsLeft
