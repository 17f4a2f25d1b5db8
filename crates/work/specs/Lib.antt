-- Request 7, "Say what Working did". To believe: Seven. To read: proofs/Promise.
pub mod Seven
